-- Sets that have as many intervals as an entry or a set may have. What is said of them is computed.
use Prim.Native.Nat.{ℕ, zero, suc, ◌+◌}
use mathlib.Core.Path.{◌≡◌, refl}
use mathlib.Core.Bool.{true}
use mathlib.Core.List.{List, [], ◌∷◌}
use lib.ListN.{replicate}
use Rattle.packets.specs.Gno.{gno_top, Interval, interval}
use Rattle.previous_gtids_event.specs.Entry.{Entry, entry, uuid_of, tag_of}
use Rattle.previous_gtids_event.specs.Rewrite.{body_bytes}
use Rattle.gtid_sets.specs.Set.{in_set_form}
use Rattle.gtid_sets.specs.Limits.{fine, limits, max_entries, max_intervals, max_of_entry, judged}
use Rattle.gtid_sets.specs.Lent.{GoodKeys, SetLaid}
use Rattle.gtid_sets.proofs.FormLaws.{form-holds}

-- n intervals of so many numbers each, with one number between them
unfoldable pub spread : ℕ → ℕ → ℕ → List Interval
spread zero from width = []
spread (suc n) from width = interval from (from + width) ∷ spread n (from + width + 1) width

-- an entry for each list of intervals, its uuid one number sixteen times, from a number on
abbrev pub uuids : ℕ → List (List Interval) → List Entry
uuids n [] = []
uuids n (is ∷ iss) = entry (replicate 16 n) is ∷ uuids (n + 1) iss

pub uuids-good : (n : ℕ) (iss : List (List Interval)) → GoodKeys (uuids n iss)
unfolding uuid_of tag_of
uuids-good n [] = tt
uuids-good n (is ∷ iss) = (record { uuid = refl; rule = refl }, uuids-good (n + 1) iss)

pub uuids-laid : (iss : List (List Interval)) → in_set_form (uuids 0 iss) ≡ true → limits (uuids 0 iss) ≡ fine → SetLaid (body_bytes (uuids 0 iss)) (uuids 0 iss)
uuids-laid iss f l = record { written = refl; formed = form-holds (uuids 0 iss) f; keyed = uuids-good 0 iss; limited = l }

-- ---- an entry with 1,024 intervals

abbrev pub entry_full : List Entry
entry_full = uuids 0 (spread 1024 3 1 ∷ [])

pub entry-full : SetLaid (body_bytes entry_full) entry_full
unfolding spread gno_top max_entries max_intervals max_of_entry judged limits
entry-full = uuids-laid (spread 1024 3 1 ∷ []) refl refl

-- ---- lists of intervals whose ids in either, in both, and in the first without the second are more intervals

-- 1 stands apart from these, and 4 is within the first of them
abbrev pub fours : ℕ → List Interval
fours n = spread n 3 4

abbrev pub one_and_four : List Interval
one_and_four = interval 1 2 ∷ interval 4 5 ∷ []

-- each of the first meets two of the second, and the other way round
abbrev pub threes : ℕ → List Interval
threes n = spread n 1 3

abbrev pub other_threes : ℕ → List Interval
other_threes n = spread n 3 3

-- The order, the limits and the ranges of the rules, in the rules' own numbers: what the definitions that name them come to.
use Rattle.std.specs.Prelude.{ℕ, ◌-◌, ◌^◌, ◌<◌, ◌≤◌, ◌≡◌, true, List, ◌∷◌, ◌++◌, ◌⊎◌, length}
use Rattle.misc.specs.Refusal.{full, crowded}
use Rattle.misc.specs.Parse.{Bytes, parsed}
use Rattle.misc.specs.Body.{body_limit}
use Rattle.packets.specs.Gno.{gno_top, interval, is_gno, is_interval}
use Rattle.packets.specs.Key.{Key, ◌≺◌}
use Rattle.previous_gtids_event.specs.Entry.{Entry}
use Rattle.previous_gtids_event.specs.Previous.{previous}
use Rattle.previous_gtids_event.specs.Rewrite.{body_bytes}
use Rattle.gtid_event_write.specs.Totals.{Totals}
use Rattle.gtid_sets.specs.Set.{SetForm}
use Rattle.gtid_sets.specs.Limits.{fine, breaks, intervals, limits, longest_set, EntryOver}
use Rattle.gtid_sets.specs.Lent.{GoodKeys, SetLaid}
use Rattle.listing.specs.EventText.{listing, longest_text}
use Rattle.promises.specs.SetFaults.{SetFault}
use Rattle.promises.specs.Exact.{Exactly}

pub record Rules : Type 0 where
  -- of two keys the first byte in which they differ decides, and a prefix comes first
  pub byte_first : (p s t : Key) (x y : ℕ) → x < y → p ++ (x ∷ s) ≺ p ++ (y ∷ t)
  pub prefix_first : (p s : Key) (x : ℕ) → p ≺ p ++ (x ∷ s)
  -- a member's gno lies in 1 to 2^63-2, and an interval has 1 <= start < end <= 2^63-1 (CR 4); the first number too great for a gno is 2^63-1
  pub gno : (n : ℕ) → Exactly (is_gno n ≡ true) ((1 ≤ n) × (n ≤ 2 ^ 63 - 2))
  pub gnos : (start end : ℕ) → Exactly (is_interval (interval start end) ≡ true) ((1 ≤ start) × (start < end) × (end ≤ 2 ^ 63 - 1))
  pub gno_top_is : gno_top ≡ 2 ^ 63 - 1
  -- 384 entries, 2,560 intervals together and 1,024 in any one entry (CR 11). 17 is given for an entry with more, and 16 for the others where there
  -- is none
  pub set_limits : (s : List Entry) → Exactly (limits s ≡ fine) ((EntryOver 1024 s → ⊥) × (length s ≤ 384) × (intervals s ≤ 2560))
  pub entry_limit : (s : List Entry) → Exactly (limits s ≡ breaks crowded) (EntryOver 1024 s)
  pub other_limits : (s : List Entry) → Exactly (limits s ≡ breaks full) ((EntryOver 1024 s → ⊥) × ((384 < length s) ⊎ (2560 < intervals s)))
  -- thus a set has at most 62,856 bytes, and a listing 129,322; a body has at most 65,536 bytes, so that every set is read as one
  pub longest_set_is : longest_set ≡ 62856
  pub longest_text_is : longest_text ≡ 129322
  pub texts : (input : List ℕ) → Bytes input → length (listing input) ≤ longest_text
  pub longest_body : body_limit ≡ 65536
  pub sets_are_bodies : (set : List ℕ) (s : List Entry) → SetLaid set s → (length set ≤ longest_set) × (previous set ≡ parsed s (length set))
  -- a set that was saved within the limits before CR 11, 256 entries and 2,048 intervals together, is still a set if no entry has more than 1,024 of them, and
  -- else none
  pub saved_before : (s : List Entry) → SetForm s → GoodKeys s → length s ≤ 256 → intervals s ≤ 2048
      → Exactly (SetLaid (body_bytes s) s) (EntryOver 1024 s → ⊥) × Exactly (SetFault (body_bytes s) 14) (EntryOver 1024 s)
  -- a tagged record that can be written has 37 to 156 bytes, and never 128 (CR 8)
  pub tagged_totals : Totals

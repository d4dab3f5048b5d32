-- Both sides of each edge, computed from the definitions.
use Prim.Native.Nat.{ℕ, ◌+◌}
use mathlib.Core.Path.{◌≡◌, refl}
use mathlib.Core.List.{List, [], ◌∷◌, ◌++◌}
use Rattle.misc.specs.Refusal as refusals
use Rattle.misc.specs.Refusal.{too_long, not_writable, bad_file}
use Rattle.misc.specs.Body.{body_limit}
use Rattle.misc.specs.Le.{le_of}
use Rattle.binlog.specs.Format.{the_opening, type_in, size_in, is_read}
use Rattle.binlog.specs.Stop.{stop_for, no_room}
use Rattle.binlog.specs.Place.{heading, inside, passing, ended, stopped, judged, headed}
use Rattle.binlog.specs.Run.{Done, did, fails, Run, at, begin, Word, chunk, end, hear}
use Rattle.binlog.specs.Held.{place_of}
use Rattle.binlog.specs.declared.Phase.TheVariants as phase

-- a header with this type and size, below 65,536
abbrev header : ℕ → ℕ → ℕ → List ℕ
header type low high = 0 ∷ 0 ∷ 0 ∷ 0 ∷ type ∷ 0 ∷ 0 ∷ 0 ∷ 0 ∷ low ∷ high ∷ 0 ∷ 0 ∷ 0 ∷ 0 ∷ 0 ∷ 0 ∷ 0 ∷ 0 ∷ []

-- what is kept is the count of events, and the answer to an event is its body
abbrev counts : ℕ → ℕ → List ℕ → Done ℕ (List ℕ)
counts n type body = did body (n + 1)

abbrev over : ℕ → List Word → Run ℕ (List ℕ)
over t ws = hear counts t (begin 0) ws

-- the opening, as it comes
wrong_first : over 0 (chunk (0xFD ∷ []) ∷ []) ≡ at (stopped (stop_for bad_file) 0) 0 []
unfolding the_opening
wrong_first = refl

wrong-last : over 0 (chunk (0xFE ∷ 0x62 ∷ 0x69 ∷ 0x6F ∷ []) ∷ []) ≡ at (stopped (stop_for bad_file) 0) 0 []
unfolding the_opening
wrong-last = refl

-- the end
end-at-once : over 0 (end ∷ []) ≡ at (stopped (stop_for refusals.ended) 0) 0 []
end-at-once = refl

end-in-opening : over 0 (chunk (0xFE ∷ 0x62 ∷ 0x69 ∷ []) ∷ end ∷ end ∷ []) ≡ at (stopped (stop_for refusals.ended) 0) 0 []
unfolding the_opening
end-in-opening = refl

no-events : over 0 (chunk the_opening ∷ end ∷ chunk [] ∷ end ∷ []) ≡ at ended 0 []
unfolding the_opening
no-events = refl

bytes-behind : over 0 (chunk the_opening ∷ end ∷ chunk (0 ∷ []) ∷ end ∷ []) ≡ at (stopped (stop_for bad_file) 0) 0 []
unfolding the_opening
bytes-behind = refl

-- sizes
small : judged 0 2 18 ≡ stopped (stop_for bad_file) 0
unfolding judged
small = refl

small-read : judged 4 33 22 ≡ stopped (stop_for bad_file) 0
unfolding judged
small-read = refl

small-with-trailer : judged 4 2 22 ≡ stopped (stop_for bad_file) 0
unfolding judged
small-with-trailer = refl

least-skipped : judged 4 2 23 ≡ passing 4
unfolding judged is_read
least-skipped = refl

greatest-skipped : judged 4 2 0xFFFFFFFF ≡ passing 0xFFFFFFEC
unfolding judged is_read
greatest-skipped = refl

longest-read : judged 4 42 65559 ≡ inside 42 65540 []
unfolding judged is_read body_limit
longest-read = refl

too_long_stops : judged 4 42 65560 ≡ stopped (stop_for too_long) 0
unfolding judged is_read body_limit
too_long_stops = refl

-- an empty body is whole with its header; a trailer is cut off; a skipped event has no answer
one-empty : over 0 (chunk (the_opening ++ header 34 19 0) ∷ end ∷ []) ≡ at ended 1 ([] ∷ [])
unfolding the_opening headed judged type_in size_in le_of is_read body_limit
one-empty = refl

trailer-cut : over 4 (chunk (the_opening ++ header 33 25 0 ++ (7 ∷ 8 ∷ [])) ∷ chunk (1 ∷ 2 ∷ 3 ∷ 4 ∷ []) ∷ end ∷ []) ≡ at ended 1 ((7 ∷ 8 ∷ []) ∷ [])
unfolding the_opening headed judged type_in size_in le_of is_read body_limit
trailer-cut = refl

end-in-trailer : over 4 (chunk (the_opening ++ header 33 25 0 ++ (7 ∷ 8 ∷ [])) ∷ chunk (1 ∷ 2 ∷ 3 ∷ []) ∷ end ∷ [])
    ≡ at (stopped (stop_for refusals.ended) 0) 0 []
unfolding the_opening headed judged type_in size_in le_of is_read body_limit
end-in-trailer = refl

skipped : over 0 (chunk (the_opening ++ header 2 21 0 ++ (7 ∷ [])) ∷ chunk (8 ∷ []) ∷ end ∷ []) ≡ at ended 0 []
unfolding the_opening headed judged type_in size_in le_of is_read
skipped = refl

end-in-skipped : over 0 (chunk (the_opening ++ header 2 21 0 ++ (7 ∷ [])) ∷ end ∷ []) ≡ at (stopped (stop_for refusals.ended) 0) 0 []
unfolding the_opening headed judged type_in size_in le_of is_read
end-in-skipped = refl

-- answers stand in the order of the events; what is refused keeps what was kept, and names its length
in_order : over 0 (chunk (the_opening ++ header 34 20 0 ++ (7 ∷ [])) ∷ chunk (header 33 20 0 ++ (8 ∷ [])) ∷ []) ≡ at (heading []) 2 ((7 ∷ []) ∷ (8 ∷ []) ∷ [])
unfolding the_opening headed judged type_in size_in le_of is_read body_limit
in_order = refl

abbrev refuses : ℕ → ℕ → List ℕ → Done ℕ (List ℕ)
refuses n type body = fails no_room 7

event-refused : hear refuses 0 (begin 5) (chunk (the_opening ++ header 34 19 0 ++ (7 ∷ [])) ∷ end ∷ []) ≡ at (stopped no_room 7) 5 []
unfolding the_opening headed judged type_in size_in le_of is_read body_limit
event-refused = refl

-- a phase that no call made is 12, too few work bytes are 13 with the length; behind the end and a refusal none are needed
not_made : place_of (phase.Opening 4) [] ≡ stopped (stop_for not_writable) 0
unfolding place_of
not_made = refl

nothing_left : place_of (phase.Body 33 0 7) [] ≡ stopped (stop_for not_writable) 0
unfolding place_of
nothing_left = refl

too-much-held : place_of (phase.Body 33 1 65540) [] ≡ stopped (stop_for not_writable) 0
unfolding place_of
too-much-held = refl

too-few-work-bytes : place_of (phase.Opening 3) (1 ∷ 2 ∷ []) ≡ stopped no_room 65540
unfolding place_of
too-few-work-bytes = refl

none_needed : place_of (phase.Stopped 18 0) [] ≡ stopped (stop_for bad_file) 0
unfolding place_of
none_needed = refl

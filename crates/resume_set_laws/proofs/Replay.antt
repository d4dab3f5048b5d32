-- Demand 3, replay, of offers: where its output has room for the longest set, an offer leaves the set after the event, and an event whose id the set
-- has, or which was refused by itself, changes nothing when it is offered again.
use Prim.Native.Nat.{ℕ, ◌≤◌}
use mathlib.Core.Path.{◌≡◌, refl, sym, ap, ◌∙◌}
use mathlib.Core.Bool.{Bool, true, false, ◌&&◌, and-false}
use mathlib.Core.List.{List}
use native.Mathlib.Omega.{arith}
use lib.Dec.{leb, eqb}
use lib.ListN.{length}
use borrow.Author.Tests.{le-leb, eq-eqb}
use Rattle.misc.specs.Refusal.{number}
use Rattle.misc.specs.Output.{output_of}
use Rattle.packets.specs.Gno.{is_gno}
use Rattle.packets.specs.Key.{Key}
use Rattle.packets.proofs.Tests.{split, clash}
use Rattle.packets.proofs.Keys.{same_self}
use Rattle.previous_gtids_event.specs.Entry.{Entry}
use Rattle.previous_gtids_event.specs.Rewrite.{body_bytes}
use Rattle.gtid_sets.specs.Set.{has}
use Rattle.gtid_sets.specs.Limits.{longest_set, is_full}
use Rattle.gtid_sets.specs.Run as run
use Rattle.gtid_sets.specs.Run.{Event, anonymous, broken, names, Answer, no_id, already, taken, answer, after, is_member, is_of, for_full}
use Rattle.gtid_sets.specs.Lent.{form, lent_set}
use Rattle.gtid_sets.specs.Saved.{GoodEvent}
use Rattle.gtid_sets.proofs.LimitLaws.{is_full-is}
use Rattle.gtid_sets.proofs.LentLaws.{lent_is, longest}
use Rattle.gtid_sets.proofs.RunLaws.{answer-cases, limits-after}
use Rattle.gtid_sets.proofs.SavedLaws.{good-after, saved_after_lem, saved-refused}
use Rattle.set_join.specs.Answers.{output_as}
use Rattle.resume_set.specs.Answers.{offered_as}
use Rattle.resume_set_laws.specs.History as history
use Rattle.resume_set_laws.specs.History.{among, kept_in, ids_in, kept, for_room, Turn, offered_in, comes_to, OfBytes, Roomy, SameEvent, Replays}
use Rattle.resume_set_laws.specs.Ours.{ours}
use Rattle.resume_set_laws.proofs.Starts.{front}
use Rattle.resume_set_laws.proofs.AnyReplay.{Alike, Stays, again-from}
use Rattle.resume_set_laws.proofs.OneOffer.{said, good-said, among-id}
use Rattle.resume_set_laws.proofs.Members.{each_keeps}

-- ---- one offer, with room for the longest set

module _ (set : List ℕ) (s : List Entry) (t : Turn) (lent : lent_set set ≡ form s) (good : GoodEvent (said t)) where
  abbrev grown : List ℕ
  grown = body_bytes (after s (said t))

  -- full, by the answer on bytes and by the answer of the theory
  full-told : history.for_full (comes_to ours set t) ≡ for_full (answer s (said t))
  full-told = rw lent (go (answer s (said t)) (leb (length grown) (length t.out)) refl)
    where
      go : (a : Answer) (b : Bool) → leb (length grown) (length t.out) ≡ b
          → history.for_full (offered_in (said t) (output_of t.out (output_as a grown)) (offered_as a (length grown) (length t.out))) ≡ for_full a
      go no_id true e = rw e
      go no_id false e = rw e
      go already true e = rw e
      go already false e = rw e
      go taken true e = rw e
      go taken false e = rw e
      go (run.refused r) b e = sym (is_full-is r)

  module _ (room : longest_set ≤ length t.out) where
    fits : leb (length grown) (length t.out) ≡ true
    fits =
        let l = lent_is set s lent in
        let long = longest (after s (said t)) (good-after s (said t) good l.keyed) (limits-after s (said t) l.limited) in
        let small : length grown ≤ length t.out = omega arith in
        le-leb _ _ small

    kept-grown : kept (comes_to ours) set t ≡ grown
    kept-grown = rw lent (go (answer s (said t)) refl)
      where
        go : (a : Answer) → answer s (said t) ≡ a
            → kept_in set (offered_in (said t) (output_of t.out (output_as a grown)) (offered_as a (length grown) (length t.out))) ≡ grown
        go no_id e = rw fits (front t.out grown fits)
        go already e = rw fits (front t.out grown fits)
        go taken e = rw fits (front t.out grown fits)
        go (run.refused r) e = sym (saved-refused set s (said t) lent r e) ∙ saved_after_lem set s (said t) lent

    ids-told : (k : Key) (n : ℕ) → among (ids_in (comes_to ours set t)) k n ≡ is_member (answer s (said t)) && is_of (said t) k n
    ids-told k n = rw lent (go (answer s (said t)))
      where
        go : (a : Answer) → among (ids_in (offered_in (said t) (output_of t.out (output_as a grown)) (offered_as a (length grown) (length t.out)))) k n
            ≡ is_member a && is_of (said t) k n
        go no_id = rw fits
        go already = rw fits (sym (among-id (said t) k n))
        go taken = rw fits (sym (among-id (said t) k n))
        go (run.refused r) = refl

    not-for-room : for_room (comes_to ours set t) ≡ false
    not-for-room = rw lent (go (answer s (said t)))
      where
        go : (a : Answer) → for_room (offered_in (said t) (output_of t.out (output_as a grown)) (offered_as a (length grown) (length t.out))) ≡ false
        go no_id = rw fits
        go already = rw fits
        go taken = rw fits
        go (run.refused r) = and-false (eqb (number r) 13)

-- ---- an event that comes again

-- it leaves a set as it is, and is not refused for full
abbrev Quiet : List Entry → Event → Type 0
Quiet l e = (after l e ≡ l) × (for_full (answer l e) ≡ false)

quiet-wrong : (l : List Entry) (k : Key) (n : ℕ) → is_gno n ≡ false → Quiet l (names k n)
unfolding is_full
quiet-wrong l k n g = rw g (refl, refl)

quiet-member : (l : List Entry) (k : Key) (n : ℕ) → has l k n ≡ true → Quiet l (names k n)
quiet-member l k n h = split (is_gno n) (λ g. rw (g, h) (refl, refl)) (quiet-wrong l k n)

-- so it is with one that was not refused for full, where the set has its id if it was taken or there already
quiet : (s l : List Entry) (e : Event) → for_full (answer s e) ≡ false
    → ((k : Key) (n : ℕ) → is_member (answer s e) && is_of e k n ≡ true → has l k n ≡ true) → Quiet l e
quiet s l anonymous h those = (refl, refl)
quiet s l (broken r) h those = (refl, h)
quiet s l (names k n) c those = answer-cases s k n
    (λ g e. quiet-wrong l k n g)
    (λ g h e. quiet-member l k n (those k n (rw (e, same_self k, eq-eqb n n refl))))
    (λ g h f e. quiet-member l k n (those k n (rw (e, same_self k, eq-eqb n n refl))))
    (λ r f g h o e. clash f (rw e at c))

-- ---- the same event with another output

same-said : (t u : Turn) → SameEvent u t → said u ≡ said t
same-said t u h = rw (h.0, h.1)

good_turn : (t : Turn) → OfBytes t → GoodEvent (said t)
good_turn t ok = good-said t.type t.body ok

good-same : (t u : Turn) → OfBytes t → SameEvent u t → GoodEvent (said u)
good-same t u ok same = rw (same-said t u same) (good_turn t ok)

offer-alike : (set : List ℕ) (s : List Entry) (t u : Turn) → lent_set set ≡ form s → OfBytes t → Roomy t → Roomy u → SameEvent u t
    → Alike (comes_to ours) set t u
offer-alike set s t u lent ok room room-again same =
    let e = same-said t u same in
    let good = good_turn t ok in
    let good-again = good-same t u ok same in
    record {
      same_kept =
          kept-grown set s u lent good-again room-again ∙ ap (λ (x : Event). body_bytes (after s x)) e ∙ sym (kept-grown set s t lent good room);
      same_full = full-told set s u lent good-again ∙ ap (λ (x : Event). for_full (answer s x)) e ∙ sym (full-told set s t lent good);
      has_room = not-for-room set s u lent good-again room-again;
    }

offer-stays : (set : List ℕ) (s : List Entry) (t : Turn) → lent_set set ≡ form s → OfBytes t → Roomy t → history.for_full (comes_to ours set t) ≡ false
    → (later : List ℕ) (l : List Entry) (u : Turn) → lent_set later ≡ form l
    → ((k : Key) (n : ℕ) → among (ids_in (comes_to ours set t)) k n ≡ true → has l k n ≡ true) → Roomy u → SameEvent u t → Stays (comes_to ours) later u
offer-stays set s t lent ok room never later l u is those room-again same =
    let good = good_turn t ok in
    let good-again = good-same t u ok same in
    let calm = quiet s l (said t) (sym (full-told set s t lent good) ∙ never) (λ k n h. those k n (ids-told set s t lent good room k n ∙ h)) in
    let (rests, fair) : Quiet l (said u) = rw (same-said t u same) calm in
    record {
      still = kept-grown later l u is good-again room-again ∙ ap body_bytes rests ∙ sym (lent_is later l is).written;
      not_full = full-told later l u is good-again ∙ fair;
      has_room = not-for-room later l u is good-again room-again;
    }

pub replays : Replays ours
replays = again-from OfBytes Roomy SameEvent (comes_to ours) (record { keeps = each_keeps; alike = offer-alike; stays = offer-stays })

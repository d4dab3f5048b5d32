-- Wrong calls over two sets are shut out.
use Prim.Native.Nat.{ℕ, ◌+◌}
use mathlib.Core.Path.{◌≡◌, refl, sym, ap, ◌∙◌}
use mathlib.Core.Bool.{Bool, true, false}
use mathlib.Core.List.{List, [], ◌∷◌}
use native.Mathlib.Omega.{arith}
use lib.Dec.{ltb, eqb}
use borrow.Author.Tests.{eq-eqb}
use lib.ListN.{get_or, replicate}
use Rattle.misc.specs.Parse.{many, bytes_at, byte_at}
use Rattle.misc.specs.Body.{body_limit}
use Rattle.misc.specs.Le.{le_of, le_bytes, le_at}
use Rattle.misc.specs.Varlen.{trailing_ones, item_value, varlen_at, varlen_size, size_from, varlen_bytes, item_of}
use Rattle.misc.specs.declared.refusal.Refusal.{Refusal}
use Rattle.misc.specs.declared.refusal.WriteError.TheVariants.{Refused}
use Rattle.misc.specs.Refusal.{number, crowded, full}
use Rattle.misc.specs.Output.{bytes, output_of, answer_of, written_number, written_len}
use Rattle.packets.specs.Gno.{gno_top, interval}
use Rattle.packets.specs.Tag.{all_tag_bytes, is_tag}
use Rattle.packets.proofs.Keys.{same_self}
use Rattle.previous_gtids_event.specs.Entry.{entry, uuid_of, tag_of}
use Rattle.previous_gtids_event.specs.Previous.{tag_at, key_at, head_at, interval_at, entry_at, says_tagged, says_count, previous}
use Rattle.previous_gtids_event.specs.Rewrite.{intervals_bytes, entry_bytes, entries_bytes, any_tag, header_bytes, body_bytes}
use Rattle.gtid_sets.specs.Limits.{intervals, max_entries, max_intervals, max_of_entry, judged, limits}
use Rattle.gtid_sets.specs.Lent.{Lent, lent_set}
use Rattle.gtid_sets.specs.Combine.{either, both, without}
use Rattle.gtid_sets.proofs.LentLaws.{is-lent}
use Rattle.resume_set_laws.specs.History.{lent_number}
use Rattle.two_sets.specs.Answers.{combine_answers, combine_leaves, within_answers}
use Rattle.std.specs.Prelude.{Result, Ok, Err}
use Rattle.promises.specs.PlainFaults.{WriteFault}
use Rattle.promises.specs.TwoSets.{CombineAnswer, Combiner, CombinesExactly, our_calls, ComparesExactly, Exceeding}
use Rattle.shut_out.specs.WrongOnes.{alone, alone_tagged, only_of, stays_apart, keeps_empty, ignores_tag, swaps_sets, counts_inputs, unjudged, takes_no_set}
use Rattle.shut_out.specs.WrongOnes.{compares_lengths, wants_same}
use Rattle.misc.proofs.ParseLaws.{ok-err}
use Rattle.promises.proofs.SetsExact.{apart}
use Rattle.promises.proofs.TwoSetsHold.{results-exactly, compares-exactly, two-sets}
use Rattle.promises.proofs.AtLimits.{spread, entry_full, entry-full}

-- two calls that answer exactly by the cases are one
same-calls : (op : Bool → Bool → Bool) {f g : Combiner} → CombinesExactly op f → CombinesExactly op g → (first second out : List ℕ)
    → (f.answers first second out ≡ g.answers first second out) × (f.leaves first second out ≡ g.leaves first second out)
same-calls op {f} {g} a b first second out =
    (a first second out (g.answers first second out) (g.leaves first second out)).1
    ((b first second out (g.answers first second out) (g.leaves first second out)).0 (refl, refl))

same-says : {f g : List ℕ → List ℕ → Result Bool Refusal} → ComparesExactly f → ComparesExactly g → (first second : List ℕ) → f first second ≡ g first second
same-says {f} {g} a b first second = (a first second (g first second)).1 ((b first second (g first second)).0 refl)

abbrev room : List ℕ
room = replicate 64 0

-- what a call that writes other bytes for two sets comes to there
module _ (op : Bool → Bool → Bool) (none : op false false ≡ false) (first second bs : List ℕ) where
  only-says : CombinesExactly op (only_of first second bs (our_calls op)) → output_of room (bytes bs) ≡ combine_leaves op first second room
  only-says exactly =
      let (_, left) = same-calls op exactly (results-exactly op none) first second room in
      rw (same_self first, same_self second) at left

-- the count of entries, and the count of intervals of a first entry without a tag, in what is left in an output
abbrev entries_in : List ℕ → ℕ
entries_in l = get_or l 0 7

abbrev intervals_in : List ℕ → ℕ
intervals_in l = get_or l 24 7

abbrev writes : List ℕ → List ℕ
writes bs = output_of room (bytes bs)

-- what our calls come to, and the wrong ones
record Computed : Type 0 where
  -- 1 and 2 touch: one interval
  touching : intervals_in (combine_leaves either (alone 1) (alone 2) room) ≡ 1
  apart : intervals_in (writes (body_bytes (entry (replicate 16 0) (interval 1 2 ∷ interval 2 3 ∷ []) ∷ []))) ≡ 2
  -- an entry that is left empty isn't written
  left-empty : entries_in (combine_leaves without (alone 1) (alone 1) room) ≡ 0
  kept-empty : entries_in (writes (body_bytes (entry (replicate 16 0) [] ∷ []))) ≡ 1
  -- the same uuid with a tag: no id is in both
  other_key : entries_in (combine_leaves both (alone 1) (alone_tagged 1) room) ≡ 0
  -- no bytes are no set: 14, and the output is as it was
  no-set : entries_in (combine_leaves either (alone 1) [] room) ≡ 0
  one_entry : entries_in (writes (alone 1)) ≡ 1
  -- {1} without the empty set is {1}, and the other way round nothing is left
  none-away : combine_answers without (alone 1) (body_bytes []) room ≡ Ok 48
  all-away : combine_answers without (body_bytes []) (alone 1) room ≡ Ok 8
  -- {1} isn't in {2}, which has as many bytes; and the empty set is in {1}
  other-id : within_answers (alone 1) (alone 2) ≡ Ok false
  as_long : compares_lengths (alone 1) (alone 2) ≡ Ok true
  none_in : within_answers (body_bytes []) (alone 1) ≡ Ok true
  not_same : wants_same (body_bytes []) (alone 1) ≡ Ok false

computed : Computed
unfolding output_of answer_of many bytes_at byte_at body_limit le_of le_bytes le_at gno_top uuid_of tag_of tag_at key_at head_at interval_at entry_at says_tagged says_count
    previous intervals_bytes entry_bytes entries_bytes any_tag header_bytes body_bytes max_entries max_intervals max_of_entry judged limits lent_set varlen_at trailing_ones
    item_value is_tag all_tag_bytes varlen_bytes varlen_size size_from item_of
computed = record {
  touching = refl;
  apart = refl;
  left-empty = refl;
  kept-empty = refl;
  other_key = refl;
  no-set = refl;
  one_entry = refl;
  none-away = refl;
  all-away = refl;
  other-id = refl;
  as_long = refl;
  none_in = refl;
  not_same = refl;
}

-- ---- other bytes written

pub stays-apart-out : CombinesExactly either stays_apart → ⊥
stays-apart-out exactly =
    let e = only-says either refl (alone 1) (alone 2) (body_bytes (entry (replicate 16 0) (interval 1 2 ∷ interval 2 3 ∷ []) ∷ [])) exactly in
    let differs : ◌≡◌ {A = ℕ} 2 1 = sym computed.apart ∙ ap intervals_in e ∙ computed.touching in
    omega arith

pub keeps-empty-out : CombinesExactly without keeps_empty → ⊥
keeps-empty-out exactly =
    let e = only-says without refl (alone 1) (alone 1) (body_bytes (entry (replicate 16 0) [] ∷ [])) exactly in
    let differs : ◌≡◌ {A = ℕ} 1 0 = sym computed.kept-empty ∙ ap entries_in e ∙ computed.left-empty in
    omega arith

pub ignores-tag-out : CombinesExactly both ignores_tag → ⊥
ignores-tag-out exactly =
    let e = only-says both refl (alone 1) (alone_tagged 1) (alone 1) exactly in
    let differs : ◌≡◌ {A = ℕ} 1 0 = sym computed.one_entry ∙ ap entries_in e ∙ computed.other_key in
    omega arith

pub takes-no-set-out : CombinesExactly either takes_no_set → ⊥
takes-no-set-out exactly =
    let e = only-says either refl (alone 1) [] (alone 1) exactly in
    let differs : ◌≡◌ {A = ℕ} 1 0 = sym computed.one_entry ∙ ap entries_in e ∙ computed.no-set in
    omega arith

pub swaps-sets-out : CombinesExactly without swaps_sets → ⊥
swaps-sets-out exactly =
    let (e, _) = same-calls without exactly (results-exactly without refl) (alone 1) (body_bytes []) room in
    let differs : ◌≡◌ {A = ℕ} 8 48 = ap written_len (sym computed.all-away ∙ e ∙ computed.none-away) in
    omega arith

-- ---- limits of the sets that are lent: an entry with 1,024 intervals and itself

abbrev most_bytes : List ℕ
most_bytes = body_bytes entry_full

has-most : lent_number intervals (lent_set most_bytes) ≡ 1024
unfolding spread
has-most = ap (λ (l : Lent). lent_number intervals l) (is-lent most_bytes entry_full entry-full)

pub counts-inputs-out : CombinesExactly either counts_inputs → ⊥
counts-inputs-out exactly =
    let whole = (two-sets.twice most_bytes entry_full entry-full).0 in
    let (e, _) = (exactly most_bytes most_bytes most_bytes _ _).1 (CombineAnswer.written whole (omega arith)) in
    let more : ltb 1024 (lent_number intervals (lent_set most_bytes) + lent_number intervals (lent_set most_bytes)) ≡ true = rw has-most in
    let differs : ◌≡◌ {A = ℕ} 17 0 = sym (rw more) ∙ ap written_number e in
    omega arith

-- ---- results that are not judged

unjudged-says : (r : Refusal) → Exceeding either (number r) → CombinesExactly either (unjudged (number r)) → ⊥
unjudged-says r (first, second, refused) exactly =
    let answer : CombineAnswer either first second [] (Err (Refused r)) [] = CombineAnswer.refused (WriteFault.itself refused) in
    let (ours, _) = (results-exactly either refl first second [] _ _).1 answer in
    let (says, _) = (exactly first second [] _ _).1 answer in
    let this : eqb (written_number (combine_answers either first second [])) (number r) ≡ true = rw ours (eq-eqb (number r) (number r) refl) in
    let differs : Ok 0 ≡ Err (Refused r) = sym (rw this) ∙ says in
    absurd (ok-err differs)

pub unjudged-entry-out : CombinesExactly either (unjudged 17) → ⊥
unjudged-entry-out = unjudged-says crowded two-sets.crowded.0

pub unjudged-set-out : CombinesExactly either (unjudged 16) → ⊥
unjudged-set-out = unjudged-says full two-sets.full.0

-- ---- yes or no

pub compares-lengths-out : ComparesExactly compares_lengths → ⊥
compares-lengths-out exactly =
    let two : Ok true ≡ Ok false = sym computed.as_long ∙ same-says exactly compares-exactly (alone 1) (alone 2) ∙ computed.other-id in
    apart cc

pub wants-same-out : ComparesExactly wants_same → ⊥
wants-same-out exactly =
    let two : Ok false ≡ Ok true = sym computed.not_same ∙ same-says exactly compares-exactly (body_bytes []) (alone 1) ∙ computed.none_in in
    apart cc

-- What it says of a record that it can be written (`Writable` of `gtid_event_write`), in facts instead of tests.
use mathlib.Core.Path.{◌≡◌, refl}
use mathlib.Core.Bool.{true, false, ◌||◌}
use mathlib.Core.List.{List, [], ◌∷◌}
use Prim.Native.Nat.{ℕ, ◌-◌, ◌≤◌}
use native.Mathlib.Omega.{arith}
use lib.Dec.{eqb}
use lib.ListN.{length, take, drop, replicate, length-drop, take-append-drop}
use lib.Seq.{length-take-le}
use borrow.Author.Tests.{eqb-true, ltb-false}
use Rattle.packets.specs.Kept.{padded}
use Rattle.packets.proofs.Tests.{split, and-true}
use Rattle.gtid_event.specs.Event.{undefined_version, tagged}
use Rattle.gtid_event.specs.declared.GtidEvent.{GtidEvent}
use Rattle.gtid_event_write.specs.Writable.{all_zero, tag_of, later_absent, writable}
use Rattle.gtid_event_write.proofs.WritableLaws.{TaggedFits, UntaggedFits, tagged-fits, untagged-fits, parts, as-tagged, as-untagged}
use Rattle.gtid_event.specs.Fits.{Fits}

-- ---- zeros

zeros : (bs : List ℕ) → all_zero bs ≡ true → replicate (length bs) 0 ≡ bs
unfolding all_zero
zeros [] h = refl
zeros (b ∷ bs) h =
    let (first, rest) = and-true (eqb b 0) (all_zero bs) h in
    rw (eqb-true b 0 first, zeros bs rest)

-- bytes with zeros behind them are those bytes, padded
pub padded-front : (n : ℕ) (bs : List ℕ) → n ≤ length bs → all_zero (drop n bs) ≡ true → padded (length bs) (take n bs) ≡ bs
unfolding padded
padded-front n bs h z =
    let size : length (take n bs) ≡ n = length-take-le n bs h in
    let rest : replicate (length bs - n) 0 ≡ drop n bs = rw length-drop at (zeros (drop n bs) z) in
    rw (size, rest) (take-append-drop n bs)

-- ---- untagged

-- the fields that follow the typecode are absent
pub record LaterAbsent (e : GtidEvent) : Type 0 where
  pub no_typecode : e.lc_typecode ≡ 0
  pub no_last : e.last_committed ≡ 0
  pub no-sequence : e.sequence_number ≡ 0
  pub no-immediate : e.immediate_commit_timestamp ≡ 0
  pub no-original : e.original_commit_timestamp ≡ 0
  pub no_length : e.tx_length ≡ 0
  pub no-version : e.immediate_server_version ≡ undefined_version
  pub no-original-version : e.original_server_version ≡ undefined_version

-- the typecode is there, or it and all that follows it are absent
pub data Later (e : GtidEvent) : Type 0 where
  there : e.lc_typecode ≡ 2 → Later e
  absent : LaterAbsent e → Later e

pub record UntaggedFacts (e : GtidEvent) : Type 0 where
  pub tests : UntaggedFits e
  pub no_tag : replicate 32 0 ≡ e.tag
  pub no-tag-len : e.tag_len ≡ 0
  pub later : Later e

module _ (e : GtidEvent) where
  absent-facts : e.lc_typecode ≡ 0 → later_absent e ≡ true → LaterAbsent e
  absent-facts none h =
      let (h₆, t₇) = and-true _ _ h in
      let (h₅, t₆) = and-true _ _ h₆ in
      let (h₄, t₅) = and-true _ _ h₅ in
      let (h₃, t₄) = and-true _ _ h₄ in
      let (h₂, t₃) = and-true _ _ h₃ in
      let (t₁, t₂) = and-true _ _ h₂ in
      record {
        no_typecode = none;
        no_last = eqb-true _ _ t₁;
        no-sequence = eqb-true _ _ t₂;
        no-immediate = eqb-true _ _ t₃;
        no-original = eqb-true _ _ t₄;
        no_length = eqb-true _ _ t₅;
        no-version = eqb-true _ _ t₆;
        no-original-version = eqb-true _ _ t₇;
      }

  later-facts : (eqb e.lc_typecode 2 || eqb e.lc_typecode 0) ≡ true → (eqb e.lc_typecode 2 || later_absent e) ≡ true → Later e
  later-facts =
      split (eqb e.lc_typecode 2)
      (λ two a b. there (eqb-true e.lc_typecode 2 two))
      (λ other a b. absent (absent-facts (eqb-true e.lc_typecode 0 (rw other at a)) (rw other at b)))

  pub untagged-facts : Fits e → writable e ≡ true → tagged e ≡ false → UntaggedFacts e
  untagged-facts fits w is =
      let tests = untagged-fits e (as-untagged e w is) in
      let none : e.tag_len ≡ 0 = omega (arith, ltb-false 0 e.tag_len is) in
      let (code, behind, _) = parts e w in
      record {
        tests = tests;
        no_tag = rw fits.tag_size at (zeros e.tag (rw none at behind));
        no-tag-len = none;
        later = later-facts code tests.later;
      }

-- ---- tagged

pub record TaggedFacts (e : GtidEvent) : Type 0 where
  pub tests : TaggedFits e
  pub tag-padded : padded 32 (tag_of e) ≡ e.tag

pub tagged-facts : (e : GtidEvent) → Fits e → writable e ≡ true → tagged e ≡ true → TaggedFacts e
tagged-facts e fits w is =
    let tests = tagged-fits e (as-tagged e w is) in
    let size = fits.tag_size in
    record {
      tests = tests;
      tag-padded = rw size at (padded-front e.tag_len e.tag (omega (arith, tests.tag)) (parts e w).1);
    }

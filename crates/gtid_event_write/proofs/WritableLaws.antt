-- What it says of a record that it can be written.
use mathlib.Core.Path.{◌≡◌, sym}
use mathlib.Core.Bool.{Bool, true, false, ◌&&◌, ◌||◌, and_comm}
use mathlib.Core.List.{List}
use Prim.Native.Nat.{ℕ, zero, suc, ◌+◌, ◌^◌, ◌≤◌, ◌<◌}
use native.Mathlib.Numerals.{add-one}
use native.Mathlib.Omega.{arith}
use lib.ListN.{length, get_or, drop, drop_of_length-le}
use lib.Bits.{bit_or, or_zero_l}
use lib.Seq.{drop-cons}
use Rattle.std.proofs.lemmas.Nat.{le_or_l}
use Rattle.std.proofs.Math.Bool as bools
use lib.Dec.{eqb}
use borrow.Author.Tests.{leb-true, ltb-true, ltb-false, eqb-true, ne_eqb}
use Rattle.misc.specs.Pick.{pick}
use Rattle.packets.specs.Tag.{is_tag}
use Rattle.packets.proofs.Tests.{and-true}
use Rattle.gtid_event.specs.Event.{tagged}
use Rattle.gtid_event.specs.declared.GtidEvent.{GtidEvent}
use Rattle.gtid_event_write.specs.Writable.{signed_top, all_zero, tag_of, later_absent, kept_beyond, writable, writable_tagged, writable_untagged}

-- ---- zeros beyond a place

zeros-next : (s : List ℕ) (i : ℕ) → i < length s → all_zero (drop i s) ≡ (eqb (get_or s i 0) 0 && all_zero (drop (i + 1) s))
unfolding all_zero
zeros-next s i h = rw (add-one, drop-cons s i 0)

-- two bytes are zero where both joined are
joined-zero : (a b : ℕ) → eqb (bit_or a b) 0 ≡ (eqb a 0 && eqb b 0)
joined-zero zero b = rw (or_zero_l b)
joined-zero (suc a) b = rw (ne_eqb (bit_or (suc a) b) 0 (λ e. omega (arith, le_or_l (suc a) b)), ne_eqb (suc a) 0 (λ e. omega arith))

-- one more byte is joined to those before it
pub joined-next : (s : List ℕ) (i joined : ℕ) → i < length s
    → (eqb joined 0 && all_zero (drop i s)) ≡ (eqb (bit_or joined (get_or s i 0)) 0 && all_zero (drop (i + 1) s))
joined-next s i joined h =
    rw (zeros-next s i h, joined-zero joined (get_or s i 0)) (sym (bools.and_assoc (eqb joined 0) (eqb (get_or s i 0) 0) (all_zero (drop (i + 1) s))))

pub joined-all : (s : List ℕ) (i joined : ℕ) → length s ≤ i → (eqb joined 0 && all_zero (drop i s)) ≡ eqb joined 0
unfolding all_zero
joined-all s i joined h = rw (drop_of_length-le s {i = i} h) (bools.and-true (eqb joined 0))

-- ---- a writable record

-- the two ways to judge it
module _ (e : GtidEvent) (fine kept : Bool) where
  pub judged-tagged : tagged e ≡ true → fine ≡ writable_tagged e → kept ≡ kept_beyond e.tag_len e → fine && kept ≡ writable e
  unfolding writable
  judged-tagged h p q = rw (p, q, h) (and_comm (writable_tagged e) (kept_beyond e.tag_len e))

  pub judged-untagged : tagged e ≡ false → fine ≡ writable_untagged e → kept ≡ kept_beyond 0 e → fine && kept ≡ writable e
  unfolding writable
  judged-untagged h p q =
      let none : e.tag_len ≡ 0 = omega (arith, ltb-false 0 e.tag_len h) in
      rw (p, q, h, none) (and_comm (writable_untagged e) (kept_beyond 0 e))

pub record TaggedFits (e : GtidEvent) : Type 0 where
  pub tag : e.tag_len ≤ 32
  pub valid : is_tag (tag_of e) ≡ true
  pub typecode : e.lc_typecode ≡ 0
  pub gno : e.gno < 2 ^ 63
  pub last : e.last_committed < 2 ^ 63
  pub sequence : e.sequence_number < 2 ^ 63

pub tagged-fits : (e : GtidEvent) → writable_tagged e ≡ true → TaggedFits e
unfolding signed_top
tagged-fits e h =
    let (h₅, t₆) = and-true _ _ h in
    let (h₄, t₅) = and-true _ _ h₅ in
    let (h₃, t₄) = and-true _ _ h₄ in
    let (h₂, t₃) = and-true _ _ h₃ in
    let (t₁, t₂) = and-true _ _ h₂ in
    record {
      tag = leb-true _ _ t₁;
      valid = t₂;
      typecode = eqb-true _ _ t₃;
      gno = ltb-true _ _ t₄;
      last = ltb-true _ _ t₅;
      sequence = ltb-true _ _ t₆;
    }

pub record UntaggedFits (e : GtidEvent) : Type 0 where
  pub ticket : e.commit_group_ticket ≡ 0
  pub time : e.immediate_commit_timestamp < 2 ^ 55
  pub original : e.original_commit_timestamp < 2 ^ 56
  pub version : e.immediate_server_version < 2 ^ 31
  pub later : (eqb e.lc_typecode 2 || later_absent e) ≡ true

pub untagged-fits : (e : GtidEvent) → writable_untagged e ≡ true → UntaggedFits e
untagged-fits e h =
    let (h₄, t₅) = and-true _ _ h in
    let (h₃, t₄) = and-true _ _ h₄ in
    let (h₂, t₃) = and-true _ _ h₃ in
    let (t₁, t₂) = and-true _ _ h₂ in
    record { ticket = eqb-true _ _ t₁; time = ltb-true _ _ t₂; original = ltb-true _ _ t₃; version = ltb-true _ _ t₄; later = t₅ }

module _ (e : GtidEvent) (able : writable e ≡ true) where
  -- its three tests
  pub parts : ((eqb e.lc_typecode 2 || eqb e.lc_typecode 0) ≡ true) × (all_zero (drop e.tag_len e.tag) ≡ true)
      × (pick (tagged e) (writable_tagged e) (writable_untagged e) ≡ true)
  unfolding writable
  parts =
      let (front, rest) = and-true _ _ able in
      let (code, behind) = and-true _ _ front in
      (code, behind, rest)

  pub as-tagged : tagged e ≡ true → writable_tagged e ≡ true
  as-tagged h = rw h at parts.2

  pub as-untagged : tagged e ≡ false → writable_untagged e ≡ true
  as-untagged h = rw h at parts.2

-- Laws of an event whose id is asked for: what was told of it, and the parts of its key.
use Prim.Native.Nat.{ℕ, ◌≤◌}
use mathlib.Core.Path.{◌≡◌}
use mathlib.Core.Logic.{◌⊎◌, inl, inr}
use mathlib.Core.List.{List}
use native.Mathlib.Omega.{arith}
use lib.ListN.{length, length-append, length-replicate}
use Rattle.misc.specs.declared.refusal.Refusal.{Refusal}
use Rattle.misc.specs.Parse.{refuse, parsed, Bytes}
use Rattle.packets.specs.Kept.{padded}
use Rattle.packets.proofs.TagLaws.{tag-at-most-32}
use Rattle.gtid_event.specs.declared.GtidEvent.{GtidEvent}
use Rattle.gtid_event_read.specs.Read.{record_in, gtid, named, gtid_read}
use Rattle.gtid_event_read.specs.declared.GtidRead.{GtidRead}
use Rattle.gtid_event_read.proofs.ReadLaws.{record-told, record-stopped}
use Rattle.std.specs.Prelude.{Ok, Err}
use Rattle.gtid_event_read.proofs.PresentLaws.{named-record}
use Rattle.gtid_event_read.proofs.Ranges.{UntaggedRange, TaggedRange, gtid-range}

-- the parts of a record's key
abbrev pub KeyParts : GtidEvent → Type 0
KeyParts e = (length e.sid ≡ 16) × (e.tag_len ≤ 32) × (length e.tag ≡ 32)

pub key-parts : (type : ℕ) (body : List ℕ) → Bytes body → {e : GtidEvent} {next : ℕ} → gtid type body ≡ parsed e next → KeyParts e
unfolding padded
key-parts type body ok {e} read = go (gtid-range type body ok read)
  where
    go : UntaggedRange e ⊎ TaggedRange e → KeyParts e
    go (inl u) = (u.uuid, omega (arith, u.none), rw u.no_tag)
    go (inr t) = (
      t.uuid,
      omega (arith, t.counted, tag-at-most-32 t.tag t.valid),
      rw t.kept (simp (length-append, length-replicate) (omega (arith, tag-at-most-32 t.tag t.valid))),
    )

module _ (type : ℕ) (body : List ℕ) where
  pub named-stopped : {x : Refusal} → Err x ≡ gtid_read (named type body) → record_in (named type body) ≡ refuse x
  named-stopped is = record-stopped (named type body) is

  module _ {said : GtidRead} (is : Ok said ≡ gtid_read (named type body)) where
    pub named-told : record_in (named type body) ≡ parsed said.event said.used
    named-told = record-told (named type body) is

    pub named-parts : Bytes body → KeyParts said.event
    named-parts ok = key-parts type body ok (named-record type body named-told)

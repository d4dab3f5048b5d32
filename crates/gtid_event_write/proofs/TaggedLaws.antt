-- Laws of writing the tagged layout: the fields stand at the front of their room, and behind the envelope they make the event.
use mathlib.Core.Path.{◌≡◌, sym, ap, ◌∙◌}
use mathlib.Core.List.{List, [], ◌∷◌, ◌++◌}
use Prim.Native.Nat.{ℕ, ◌+◌, ◌≤◌}
use native.Mathlib.Nat.{zero-add}
use native.Mathlib.Omega.{arith}
use Rattle.std.proofs.Common.{MutBor}
use lib.ListN.{length, take, drop}
use lib.Seq.{take_at}
use Rattle.misc.specs.Output.{Placed}
use Rattle.misc.specs.Put.{Puts, PutsWhereFits}
use Rattle.misc.specs.declared.put.Put.{Put}
use Rattle.misc.specs.Varlen.{varlen_bytes}
use Rattle.misc.proofs.OutputLaws.{written_is}
use Rattle.misc.proofs.PutLaws.{◌and◌, puts-fit}
use Rattle.gtid_event.specs.declared.GtidEvent.{GtidEvent}
use Rattle.gtid_event_write.specs.Size.{payload_size}
use Rattle.gtid_event_write.specs.Layout.{identity_bytes, clock_bytes, rest_bytes, field_bytes, tagged_bytes}
use Rattle.gtid_event_write.proofs.LayoutLaws.{length-tagged}
use Rattle.gtid_event_write.proofs.PutLaws.{with-bytes}

module _ (e : GtidEvent) where
  module _ {room fields : List ℕ} {n : ℕ} (p : Placed room 0 (field_bytes e) fields n) where
    pub count-is : n ≡ length (field_bytes e)
    count-is = p.ends ∙ zero-add (length (field_bytes e))

    -- so many of them make an event of this size
    pub size_is : (size : ℕ) → size ≡ payload_size n → size ≡ length (tagged_bytes e)
    size_is size is = is ∙ ap payload_size count-is ∙ sym (length-tagged e)

    front-is : n ≤ length room → take n fields ≡ field_bytes e
    front-is fit =
        let holds = p.holds ∙ written_is room 0 (field_bytes e) (omega (arith, count-is)) in
        ap (take n) holds ∙ take_at (field_bytes e) (drop (0 + length (field_bytes e)) room) n (sym count-is)

    pub whole-placed : {p q r : Put} {size : ℕ} → n ≤ length room → size ≡ payload_size n
        → PutsWhereFits p ((2 ∷ []) ++ varlen_bytes size ++ varlen_bytes 0) q → Puts q (take n fields) r → PutsWhereFits p (tagged_bytes e) r
    unfolding tagged_bytes
    whole-placed {size = size} fit is envelope behind =
        let sized : size ≡ payload_size (length (field_bytes e)) = is ∙ ap payload_size count-is in
        with-bytes (ap (λ (v : ℕ). (2 ∷ []) ++ varlen_bytes v ++ varlen_bytes 0) sized) envelope
        and with-bytes (front-is fit) (puts-fit behind)

  -- all fields, put into room that is left with them
  pub fields-placed : {room : MutBor (List ℕ)} {fields : List ℕ} {p q r : Put} → length (field_bytes e) ≤ 152 → 152 ≤ length room.now
      → PutsWhereFits (record { out = room; at = 0 }) (identity_bytes e) p → PutsWhereFits p (clock_bytes e) q → PutsWhereFits q (rest_bytes e) r
      → fields ≡ r.out.now → Placed room.now 0 (field_bytes e) fields r.at × (r.at ≤ 152)
  unfolding field_bytes
  fields-placed {r = r} few enough f g h left =
      let placed = (f and g and h).placed (omega arith) in
      (rw left placed, omega (arith, count-is placed))

-- Whatever record a function is handed fits its types.
use Prim.Native.Nat.{ℕ, zero, suc}
use mathlib.Core.Path.{◌≡◌}
use mathlib.Core.List.{List, [], ◌∷◌}
use native.Mathlib.Omega.{arith}
use lib.ListN.{length}
use denote.Array.{each}
use denote.Laws.{Is}
use denote.Shadow.{shadow}
use denote.Struct.Declared.{row}
use denote.Builtin.{Array, u8}
use denote.Struct.Field.{u8-field, row_field}
use mir.Val.{Val}
use Rattle.misc.specs.Parse.{Bytes}
use Rattle.gtid_event.specs.Fits.{Fits}
use Rattle.gtid_event.specs.declared.GtidEvent.{GtidEvent}
use Rattle.gtid_event.specs.contracts.GtidEvent as declared

-- a field of n bytes
bytes : (bs : List ℕ) (us : List Val) → shadow (each ℕ u8-field.row.own_val bs us) → Bytes bs
bytes [] us h i = omega arith
bytes (b ∷ bs) [] h i = absurd h
bytes (b ∷ bs) (u ∷ us) h zero = h.0.1
bytes (b ∷ bs) (u ∷ us) h (suc i) = bytes bs us h.1 i

field : (n : ℕ) (bs : List ℕ) (vs : List Val) → shadow ((row_field (Array u8 tt n)).row.own_val bs vs) → (length bs ≡ n) × Bytes bs
field n bs vs h = (h.1.0.1, bytes bs h.0 h.1.1)

pub fits : (e : GtidEvent) (vs : List Val) → Is (row declared.the_type) e vs → Fits e
fits e vs is =
    let (flags, (sid, (gno, (tag, (tag_len, (typecode, (last, (sequence, (immediate, (original, (len, (version, (original_version, (ticket, _)))))))))))))) =
    is.1.1 in
    let (sid-is, sid-bytes) = field 16 e.sid _ sid in
    let (tag_is, tag-bytes) = field 32 e.tag _ tag in
    record {
      flags_fit = flags.1;
      sid_size = sid-is;
      sid_fits = sid-bytes;
      gno_fits = gno.1;
      tag_size = tag_is;
      tag_fits = tag-bytes;
      tag_len_fits = tag_len.1;
      typecode_fits = typecode.1;
      last_fits = last.1;
      sequence_fits = sequence.1;
      immediate_fits = immediate.1;
      original_fits = original.1;
      length_fits = len.1;
      version_fits = version.1;
      original_version_fits = original_version.1;
      ticket_fits = ticket.1;
    }

-- Laws of the record as bytes (`specs/Flat.antt`): its length, what is read from it, and what the calls over it answer.
use mathlib.Core.Path.{◌≡◌, refl, sym, ap, subst, ◌∙◌}
use mathlib.Core.List.{List}
use Prim.Native.Nat.{ℕ, ◌+◌, ◌-◌, ◌≤◌, ◌<◌}
use native.Mathlib.Omega.{arith}
use lib.ListN.{length, get_or, drop, length-append, length-drop}
use lib.Seq.{take_all}
use Rattle.packets.proofs.KeptLaws.{kept_full}
use borrow.Author.Tests.{eq-eqb, ne_eqb, le-leb, lt-leb}
use Rattle.std.specs.Prelude.{Result, Ok, Err}
use Rattle.misc.specs.Refusal.{not_writable, error_number, error_needed}
use Rattle.misc.specs.declared.refusal.Refusal.{Refusal}
use Rattle.misc.specs.declared.refusal.WriteError.{WriteError}
use Rattle.misc.specs.declared.refusal.WriteError.TheVariants.{Refused}
use Rattle.misc.specs.Parse.{Bytes, Parse, refuse, parsed, part}
use Rattle.misc.specs.Output.{bytes, output_of, answer_of, written_number, Placed}
use Rattle.misc.proofs.LeLaws.{length-le_bytes}
use Rattle.misc.proofs.ParseLaws.{part_length, split, answered-ok, answered-err}
use Rattle.misc.proofs.OutputLaws.{from_on, output-fits, output-short, output-refused}
use Rattle.packets.specs.Kept.{kept}
use Rattle.gtid_event.specs.declared.GtidEvent.{GtidEvent}
use Rattle.gtid_event_read.specs.Seen.{Seen}
use Rattle.gtid_event_read.specs.Read.{record_in, seen, gtid, gtid_read}
use Rattle.gtid_event_read.specs.declared.GtidRead.{GtidRead}
use Rattle.gtid_event_write.specs.Write.{event_output}
use Rattle.misc.specs.Le.{number_at}
use Rattle.gtid_event_read.proofs.NamedLaws.{key-parts}
use Rattle.abi.specs.Flat.{flat, flat_identity, flat_clock, flat_rest, four_at, typecode_if, flat_read, read_output, read_answers, read_used, write_output}

pub length-flat : (e : GtidEvent) → length e.sid ≡ 16 → length e.tag ≡ 32 → length (flat e) ≡ 116
unfolding flat flat_identity flat_clock flat_rest
length-flat e uuid tag = simp (length-append, length-le_bytes, uuid, tag)

-- ---- the record in bytes

-- a field of bytes that are all there
kept_there : (s : List ℕ) (at width : ℕ) → at + width ≤ length s → kept width (from_on s at) ≡ part s at width
kept_there s at width h =
    let rest : from_on s at ≡ drop at s = take_all (length s - at) (drop at s) (rw length-drop (omega arith)) in
    rw rest (kept_full width (drop at s) (part_length width s at h))

pub record_is : (s sid tag : List ℕ) (gno typecode last sequence immediate original len version originally ticket : ℕ)
    → length s ≡ 116
    → sid ≡ kept 16 (from_on s 1)
    → gno ≡ number_at s 17
    → tag ≡ kept 32 (from_on s 26)
    → typecode ≡ typecode_if (get_or s 58 0) (get_or s 59 0)
    → last ≡ number_at s 60
    → sequence ≡ number_at s 68
    → immediate ≡ number_at s 76
    → original ≡ number_at s 84
    → len ≡ number_at s 92
    → version ≡ four_at s 100
    → originally ≡ four_at s 104
    → ticket ≡ number_at s 108
    → ◌≡◌ {A = GtidEvent}
    (record {
      flags = get_or s 0 0;
      sid = sid;
      gno = gno;
      tag = tag;
      tag_len = get_or s 25 0;
      lc_typecode = typecode;
      last_committed = last;
      sequence_number = sequence;
      immediate_commit_timestamp = immediate;
      original_commit_timestamp = original;
      tx_length = len;
      immediate_server_version = version;
      original_server_version = originally;
      commit_group_ticket = ticket;
    })
    (flat_read s)
unfolding flat_read
record_is s sid tag gno typecode last sequence immediate original len version originally ticket whole a b c d e f g h i j k l =
    let uuid : sid ≡ part s 1 16 = a ∙ kept_there s 1 16 (omega arith) in
    let field : tag ≡ part s 26 32 = c ∙ kept_there s 26 32 (omega arith) in
    rw (uuid, b, field, d, e, f, g, h, i, j, k, l)

-- ---- `gtid_read_present`

module _ (type : ℕ) (body out : List ℕ) where
  abbrev answer : Result GtidRead Refusal
  answer = gtid_read (seen type body)

  pub out-refused : {r : Refusal} → Err r ≡ answer → out ≡ output_of out (read_output (gtid type body))
  unfolding gtid
  out-refused {r} told = rw (answered-err _ (seen type body) told) (output-refused out r).1

  module _ (ok : Bytes body) where
    record-size : {x : Seen} {next : ℕ} → seen type body ≡ parsed x next → length (flat x.event) ≡ 116
    unfolding gtid
    record-size {x} {next} is =
        let parts = key-parts type body ok (ap record_in is) in
        length-flat x.event parts.0 parts.2

    module _ {said : GtidRead} (told : Ok said ≡ answer) where
      size : length (flat said.event) ≡ 116
      size =
          let (x, next, is, same) = answered-ok _ (seen type body) told in
          rw same (record-size is)

      output-is : read_output (gtid type body) ≡ bytes (flat said.event)
      unfolding gtid
      output-is =
          let (x, next, is, same) = answered-ok _ (seen type body) told in
          ap (λ (p : Parse Seen). read_output (record_in p)) is ∙ ap (λ (y : GtidRead). bytes (flat y.event)) (sym same)

      pub out-short : length out < 116 → out ≡ output_of out (read_output (gtid type body))
      out-short h = (output-short out (flat said.event) 116 (sym size) h).1 ∙ ap (output_of out) (sym output-is)

      pub out-fits : {after : List ℕ} {n : ℕ} → 116 ≤ length out → (0 + length (flat said.event) ≤ length out → Placed out 0 (flat said.event) after n)
          → after ≡ output_of out (read_output (gtid type body))
      out-fits h placed = (output-fits (omega (arith, size)) (placed (omega (arith, size)))).1 ∙ ap (output_of out) (sym output-is)

    -- what is handed out of it: the number of what went wrong, and how many bytes were used or are needed
    abbrev HandsOut : Result GtidRead WriteError → Type 0
    HandsOut (Ok said) = (0 ≡ written_number (answer_of out (read_output (gtid type body)))) × (said.used ≡ read_used (gtid type body) (length out))
    HandsOut (Err e) = (error_number e ≡ written_number (answer_of out (read_output (gtid type body))))
        × (error_needed e ≡ read_used (gtid type body) (length out))

    hands-out : (p : Parse Seen) → seen type body ≡ p → HandsOut (read_answers (gtid_read p) (length out))
    unfolding gtid answer_of
    hands-out (refuse r) is = rw is (refl, refl)
    hands-out (parsed x next) is =
        let size = record-size is in
        split 116 (length out)
        (λ h. rw (le-leb 116 (length out) h, is, size, le-leb 116 (length out) h) (refl, refl))
        (λ h. rw (lt-leb 116 (length out) h, is, size, lt-leb 116 (length out) h) (refl, refl))

    pub handed-out : {w : Result GtidRead WriteError} → w ≡ read_answers answer (length out) → HandsOut w
    handed-out told = subst HandsOut (sym told) (hands-out (seen type body) refl)

-- ---- `gtid_write`

pub write-unfit : (s out : List ℕ) → (length s ≡ 116 → ⊥)
    → (Err (Refused not_writable) ≡ answer_of out (write_output s)) × (out ≡ output_of out (write_output s))
unfolding write_output
write-unfit s out h = rw (ne_eqb (length s) 116 h) (output-refused out not_writable)

pub write-told : (s out after : List ℕ) (e : GtidEvent) (w : Result ℕ WriteError) → length s ≡ 116 → e ≡ flat_read s
    → (w ≡ answer_of out (event_output e)) × (after ≡ output_of out (event_output e))
    → (w ≡ answer_of out (write_output s)) × (after ≡ output_of out (write_output s))
unfolding write_output
write-told s out after e w whole is told = rw (eq-eqb (length s) 116 whole, ← is) told

-- The statements of `specs/Building.antt` hold.
use Prim.Native.Nat.{ℕ, ◌^◌, ◌<◌}
use mathlib.Core.Path.{◌≡◌, refl, ap, ◌∙◌}
use mathlib.Core.Bool.{true, false}
use mathlib.Core.List.{List, [], ◌∷◌, ◌++◌, append-nil}
use native.Mathlib.Omega.{arith}
use lib.Dec.{eqb}
use lib.ListN.{length, length-append}
use Rattle.misc.specs.Parse.{Bytes, parsed}
use Rattle.misc.specs.Le.{le_bytes}
use Rattle.misc.specs.Output.{bytes}
use Rattle.misc.proofs.Bounds.{zeros-bytes}
use Rattle.misc.proofs.LeLaws.{length-le_bytes}
use Rattle.packets.specs.Tag.{is_tag}
use Rattle.gtid_event.specs.Event.{undefined_version, fresh, new_untagged, new_tagged, with_tag, set_tag, set_number, set_typecode}
use Rattle.gtid_event.specs.declared.GtidEvent.{GtidEvent}
use Rattle.gtid_event.proofs.BuiltLaws.{built}
use Rattle.gtid_event_read.specs.Read.{gtid}
use Rattle.gtid_event_write.specs.Writable.{all_zero, writable}
use Rattle.gtid_event_write.specs.Layout.{opening_bytes, untagged_bytes}
use Rattle.gtid_event_write.specs.Write.{event_bytes, event_output}
use Rattle.gtid_event.specs.Fits.{Fits}
use Rattle.gtid_event_laws.proofs.EventBack.{event-alone}
use Rattle.gtid_sets.proofs.Bools.{or-false-parts}
use Rattle.std.specs.Prelude.{Ok}
use Rattle.promises.specs.UntaggedLayout.{PairLaid, PairIfLeft}
use Rattle.promises.specs.TaggedLayout.{Sent, number, the_uuid, the_tag, sends, last_number}
use Rattle.promises.specs.Building.{server_versions, Unversioned, KeepsVersions, Building}

-- ---- what a reader gives where no version was sent

none_left : {immediate original : ℕ} {bs rest : List ℕ} → PairIfLeft 4 999999 immediate original bs rest → bs ≡ []
    → (immediate ≡ 999999) × (original ≡ 999999)
none_left (PairIfLeft.gone few) none = (refl, refl)
none_left (PairIfLeft.there (PairLaid.equal four low)) none = absurd (omega (arith, four.long, ap length none))
none_left (PairIfLeft.there (PairLaid.both {bs = bs} {more = more} four low original)) none =
    absurd (omega (arith, four.long, ap length none, length-append bs more))

unsent : (id : ℕ) (told : List Sent) (absent : ℕ) → sends id told ≡ false → last_number id told absent ≡ absent
unsent id [] absent none = refl
unsent id (number k v ∷ told) absent none =
    let (other, rest) = or-false-parts (eqb k id) (sends id told) none in
    rw other (unsent id told absent rest)
unsent id (the_uuid us ∷ told) absent none = unsent id told absent (or-false-parts (eqb 1 id) (sends id told) none).1
unsent id (the_tag t ∷ told) absent none = unsent id told absent (or-false-parts (eqb 3 id) (sends id told) none).1

absent-versions : {s : List ℕ} {e : GtidEvent} {used : ℕ} → Unversioned s e used → server_versions e ≡ 999999 ∷ 999999 ∷ []
absent-versions (Unversioned.short laid) = ap server_versions laid.others
absent-versions (Unversioned.long laid none) =
    let (immediate, original) = none_left laid.versions_are none in
    rw (immediate, original)
absent-versions (Unversioned.tagged laid is immediate original) =
    rw (is, laid.is, unsent 9 laid.told 999999 immediate, unsent 10 laid.told 999999 original)

-- ---- a new record can be written

pub fresh-fits : (sid : List ℕ) (gno typecode : ℕ) → length sid ≡ 16 → Bytes sid → gno < 2 ^ 64 → typecode < 256
    → Fits (fresh sid gno typecode undefined_version)
fresh-fits sid gno typecode size are few small = record {
  flags_fit = omega arith;
  sid_size = size;
  sid_fits = are;
  gno_fits = few;
  tag_size = refl;
  tag_fits = zeros-bytes 32;
  tag_len_fits = omega arith;
  typecode_fits = small;
  last_fits = omega arith;
  sequence_fits = omega arith;
  immediate_fits = omega arith;
  original_fits = omega arith;
  length_fits = omega arith;
  version_fits = omega arith;
  original_version_fits = omega arith;
  ticket_fits = omega arith;
}

abbrev bare : List ℕ → ℕ → GtidEvent
bare sid gno = set_typecode 0 (new_untagged sid gno)

abbrev bare_bytes : List ℕ → ℕ → List ℕ
bare_bytes sid gno = 0 ∷ (sid ++ le_bytes 8 gno)

module _ (sid : List ℕ) (gno : ℕ) where
  bare-can : writable (bare sid gno) ≡ true
  unfolding writable all_zero
  bare-can = refl

  bare-are : event_bytes (bare sid gno) ≡ bare_bytes sid gno
  unfolding event_bytes untagged_bytes opening_bytes
  bare-are = append-nil (bare_bytes sid gno)

  bare-output : event_output (bare sid gno) ≡ bytes (bare_bytes sid gno)
  unfolding event_output
  bare-output = rw (bare-can, bare-are)

  bare-long : length sid ≡ 16 → length (bare_bytes sid gno) ≡ 25
  bare-long size = omega (arith, length-append sid (le_bytes 8 gno), length-le_bytes 8 gno)

  bare-back : length sid ≡ 16 → Bytes sid → gno < 2 ^ 64 → gtid 33 (bare_bytes sid gno) ≡ parsed (bare sid gno) 25
  bare-back size are few =
      let alone = event-alone (bare sid gno) (fresh-fits sid gno 0 size are few (omega arith)) bare-can in
      rw bare-are at alone ∙ ap (parsed (bare sid gno)) (bare-long size)

kept : KeepsVersions with_tag
unfolding with_tag
kept tag e is = (set_tag tag e, rw is, refl)

new-tagged : (sid tag : List ℕ) (gno : ℕ) → is_tag tag ≡ true → new_tagged sid tag gno ≡ Ok (set_tag tag (fresh sid gno 0 undefined_version))
unfolding new_tagged with_tag
new-tagged sid tag gno is = rw is

pub zeros-kept : (sid tag : List ℕ) (gno : ℕ) → is_tag tag ≡ true
    → (x : GtidEvent) × (with_tag tag (set_number 9 0 (set_number 10 0 (new_untagged sid gno))) ≡ Ok x) × (server_versions x ≡ 0 ∷ 0 ∷ [])
zeros-kept sid tag gno is = kept tag (set_number 9 0 (set_number 10 0 (new_untagged sid gno))) is

pub building : Building
building = record {
  built = built;
  untagged = λ s e used none sid gno. rw (absent-versions none);
  tagged = λ tag is. (
    λ sid gno. set_tag tag (fresh sid gno 0 undefined_version),
    λ sid gno. new-tagged sid tag gno is,
    λ s e used none sid gno. rw (absent-versions none),
  );
  kept = kept;
  written = λ sid gno size are few. (bare-output sid gno, bare-long sid gno size, bare-back sid gno size are few);
}

-- The statements of `specs/Highest.antt` hold.
use Prim.Native.Nat.{ℕ, ◌≤◌, ◌<◌}
use mathlib.Core.Path.{◌≡◌, refl, sym, ap, ◌∙◌}
use mathlib.Core.Bool.{true, false}
use mathlib.Core.List.{List, [], ◌∷◌, ◌++◌}
use mathlib.Core.Logic.{inl, inr}
use native.Mathlib.Omega.{arith}
use borrow.Author.Tests.{lt-ltb}
use Rattle.misc.specs.declared.refusal.WriteError.TheVariants.{Refused}
use Rattle.misc.specs.Refusal.{bad_gno}
use Rattle.misc.specs.Parse.{Bytes}
use Rattle.packets.specs.Gno.{gno_top, is_gno, Interval, interval}
use Rattle.packets.specs.Key.{Key}
use Rattle.packets.proofs.GnoLaws.{gno_top-is}
use Rattle.packets.proofs.Tests.{split, clash}
use Rattle.previous_gtids_event.specs.Entry.{Entry, entry}
use Rattle.previous_gtids_event.specs.Previous.{previous}
use Rattle.gtid_event.specs.Event.{tagged, type_of, set_number}
use Rattle.gtid_event.specs.declared.GtidEvent.{GtidEvent}
use Rattle.gtid_event_write.specs.Writable.{signed_top, writable}
use Rattle.gtid_event_write.specs.Write.{event_bytes, event_output}
use Rattle.gtid_event_write.proofs.WritableLaws.{tagged-fits, parts, as-tagged, as-untagged}
use Rattle.gtid_event.specs.Fits.{Fits}
use Rattle.gtid_event_laws.proofs.EventBack.{event-alone}
use Rattle.gtid_sets.specs.TakeIn.{Proper, Lawful, lawful}
use Rattle.gtid_sets.specs.Lent.{Lent, form, unfit, lent_set}
use Rattle.gtid_sets.proofs.FormLaws.{lawful-holds}
use Rattle.gtid_sets.proofs.SetLaws.{has-gno}
use Rattle.gtid_sets.proofs.TakeInLaws.{form-lawful}
use Rattle.gtid_sets.proofs.LentLaws.{lent_is, is-lent, read_back}
use Rattle.set_join.specs.Answers.{take_in_answers}
use Rattle.text.specs.Lines.{refused_text}
use Rattle.listing.specs.EventText.{gtid_text, event_text}
use Rattle.listing.proofs.EventTextLaws.{id-named, event-gtid}
use Rattle.resume_set_laws.specs.History.{kept, kept_all, lent_has, member, Turn, Offering, comes_to}
use Rattle.resume_set_laws.specs.Ours.{ours}
use Rattle.std.specs.Prelude.{Err}
use Rattle.promises.specs.SetFaults.{SetFault, BodyIs, TakeInFault, Names}
use Rattle.promises.specs.Highest.{EndsAt, HasEnd, CarriedOnly, Highest}
use Rattle.promises.proofs.SetsExact.{body-read}
use Rattle.promises.proofs.Naming.{event-named, written-named}
use Rattle.promises.proofs.AnswersTold.{listing-told}
use Rattle.promises.proofs.BesidesHold.{no-gno, zeros}

-- ---- an end behind the top

module _ (end : ℕ) (over : gno_top < end) where
  none-proper : (is : List Interval) → Proper is → EndsAt end is → ⊥
  none-proper [] p h = elim h [ ]
  none-proper (interval a b ∷ is) p (inl here) = omega arith
  none-proper (interval a b ∷ is) p (inr there) = none-proper is p.3 there

  none-lawful : (es : List Entry) → Lawful es → HasEnd end es → ⊥
  none-lawful [] l h = elim h [ ]
  none-lawful (entry k is ∷ es) l (inl here) = none-proper is l.0 here
  none-lawful (entry k is ∷ es) l (inr there) = none-lawful es l.1 there

  module _ (body : List ℕ) (es : List Entry) (are : Bytes body) (is : BodyIs body es) (has_end : HasEnd end es) where
    unlent : SetFault body 14
    unlent = SetFault.no_set (λ s laid.
        let (used, read) = body-read body are is in
        let back = ap previous laid.written ∙ read_back s laid.formed laid.keyed laid.limited in
        let same : es ≡ s = cc in
        none-lawful s (form-lawful s laid.formed) (rw same at has_end))

    unlawful : lawful es ≡ false
    unlawful = split (lawful es) (λ good. absurd (none-lawful es (lawful-holds es good) has_end)) (λ bad. bad)

    untaken : (out : List ℕ) → (take_in_answers body out ≡ Err (Refused bad_gno)) × (event_text 35 body ≡ refused_text 15)
    untaken out =
        let (used, read) = body-read body are is in
        (rw (read, unlawful) ((zeros bad_gno).wrote out), listing-told.refused_body body 15 are (TakeInFault.gno_rule is unlawful))

-- ---- a record with the top as its gno

with-top : (e : GtidEvent) → writable e ≡ true → writable (set_number 2 gno_top e) ≡ true
unfolding writable signed_top gno_top
with-top e can =
    let (code, behind, _) = parts e can in
    split (tagged e)
    (λ is.
    let able = as-tagged e can is in
    rw (code, behind, is) (rw (lt-ltb e.gno signed_top (tagged-fits e able).gno) at able))
    (λ is. rw (code, behind, is) (as-untagged e can is))

fits-top : (e : GtidEvent) → Fits e → Fits (set_number 2 gno_top e)
fits-top e fits = record {
  flags_fit = fits.flags_fit;
  sid_size = fits.sid_size;
  sid_fits = fits.sid_fits;
  gno_fits = omega (arith, gno_top-is);
  tag_size = fits.tag_size;
  tag_fits = fits.tag_fits;
  tag_len_fits = fits.tag_len_fits;
  typecode_fits = fits.typecode_fits;
  last_fits = fits.last_fits;
  sequence_fits = fits.sequence_fits;
  immediate_fits = fits.immediate_fits;
  original_fits = fits.original_fits;
  length_fits = fits.length_fits;
  version_fits = fits.version_fits;
  original_version_fits = fits.original_version_fits;
  ticket_fits = fits.ticket_fits;
}

top-none : is_gno gno_top ≡ false
top-none = no-gno gno_top (inr (omega arith))

-- what is written is no Previous-GTIDs event
not-35 : (e : GtidEvent) → type_of e ≡ 35 → ⊥
not-35 e = split (tagged e) (λ is h. omega (arith, rw is at h)) (λ is h. omega (arith, rw is at h))

carried : (e : GtidEvent) → Fits e → writable e ≡ true → CarriedOnly (set_number 2 gno_top e)
unfolding event_output
carried e fits can =
    let high = set_number 2 gno_top e in
    let able = with-top e can in
    let fits = fits-top e fits in
    let said = written-named high fits able in
    record {
      body = event_bytes high;
      written = rw able;
      read = event-alone high fits able;
      listed = sym (event-gtid (type_of high) (event_bytes high) (not-35 high)) ∙ ap gtid_text said ∙ sym (id-named high fits.sid_size);
      offered = λ set s out laid. rw (is-lent set s laid, said, top-none);
    }

-- ---- demand 3

members : (set : List ℕ) (k : Key) (n : ℕ) → member set k n ≡ true → is_gno n ≡ true
members set k n = go (lent_set set) refl
  where
    go : (l : Lent) → lent_set set ≡ l → lent_has l k n ≡ true → is_gno n ≡ true
    go unfit lent h = clash h refl
    go (form s) lent h = has-gno s k n (lent_is set s lent).formed h

-- a turn that leaves every set as it is can be left out
left_out : (f : Offering) (t : Turn) → ((set : List ℕ) → kept (comes_to f) set t ≡ set) → (set : List ℕ) (before after : List Turn)
    → kept_all (comes_to f) set (before ++ (t ∷ after)) ≡ kept_all (comes_to f) set (before ++ after)
left_out f t same set [] after = ap (λ s. kept_all (comes_to f) s after) (same set)
left_out f t same set (b ∷ before) after = left_out f t same (kept (comes_to f) set b) before after

stays : (t : Turn) (e : GtidEvent) → Names t.type t.body e → gno_top ≤ e.gno → (set : List ℕ) → kept (comes_to ours) set t ≡ set
stays t e named over set = go (lent_set set) refl
  where
    go : (l : Lent) → lent_set set ≡ l → kept (comes_to ours) set t ≡ set
    go unfit lent = rw lent
    go (form s) lent = rw (lent, event-named t.type t.body named, no-gno e.gno (inr over))

pub highest : Highest
highest = record {
  lent = λ set es end are is has_end over. unlent end over set es are is has_end;
  taken_in = λ body out es end are is has_end over. untaken end over body es are is has_end out;
  carried = carried;
  members = members;
  passed_over = λ set before after t e named over. left_out ours t (stays t e named over) set before after;
}

-- The statements of `specs/Exact.antt` for the calls over sets.
use Prim.Native.Nat.{ℕ, ◌≤◌}
use mathlib.Core.Path.{◌≡◌, refl, sym, ap, ◌∙◌}
use mathlib.Core.Bool.{true, false, ◌&&◌, and-false}
use mathlib.Core.List.{List, ◌++◌}
use native.Mathlib.Omega.{arith}
use lib.Dec.{eqb, leb}
use lib.ListN.{length, drop, replicate, length-replicate}
use borrow.Author.Tests.{leb-true, leb-false, le-leb, lt-leb, eqb-true, eqb-false, ne_eqb}
use Rattle.misc.specs.declared.refusal.Refusal.{Refusal}
use Rattle.misc.specs.declared.refusal.WriteError.{WriteError}
use Rattle.misc.specs.declared.refusal.WriteError.TheVariants.{Refused, NoRoom}
use Rattle.misc.specs.Refusal.{number, too_long, not_a_set, bad_gno, full, crowded, error_number, error_needed}
use Rattle.misc.specs.Parse.{Bytes, Parse, refuse, parsed, refusal_in}
use Rattle.misc.specs.Body.{body_limit}
use Rattle.misc.specs.Output.{refused, bytes, output_of}
use Rattle.misc.proofs.ParseLaws.{pick-either, pick-parsed}
use Rattle.packets.specs.Gno.{is_gno}
use Rattle.packets.proofs.Tests.{split}
use Rattle.previous_gtids_event.specs.Entry.{Entry}
use Rattle.packets.specs.Tag.{none_or_tag}
use Rattle.previous_gtids_event.specs.Previous.{previous}
use Rattle.previous_gtids_event.specs.Rewrite.{body_bytes}
use Rattle.gtid_event.specs.declared.GtidEvent.{GtidEvent}
use Rattle.gtid_event_read.specs.Seen.{Seen}
use Rattle.gtid_event_read.specs.Read.{record_in, named}
use Rattle.gtid_sets.specs.Set.{has, add, SetForm}
use Rattle.gtid_sets.specs.TakeIn.{lawful, taken_set}
use Rattle.gtid_sets.specs.Limits.{Judged, fine, breaks, limits}
use Rattle.gtid_sets.specs.Run.{broken, names, after}
use Rattle.gtid_sets.specs.Lent.{Lent, form, unfit, lent_set, SetLaid}
use Rattle.gtid_sets.proofs.LentLaws.{lent_is, is-lent, lent_none}
use Rattle.gtid_sets.proofs.SetLaws.{has-gno}
use Rattle.gtid_sets.proofs.RunLaws.{answer-cases}
use Rattle.set_check.specs.Check.{checked_of}
use Rattle.set_join.specs.Answers.{contained, saved_if, taken_in, output_for, output}
use Rattle.resume_set.specs.Answers.{set_read, says, event_of, fitting, offered_of, offered}
use Rattle.resume_set.specs.declared.Offered.{Offered}
use Rattle.listing.specs.SetText.{set_text, listed_set}
use Rattle.resume_set_laws.specs.History.{lent_has, member}
use Rattle.resume_set_laws.specs.Ours.{ours}
use Rattle.resume_set_laws.proofs.OneOffer.{out-refused}
use Rattle.std.specs.Prelude.{Result, Err}
use Rattle.promises.specs.PlainFaults.{ShortFault}
use Rattle.promises.specs.SetFaults.{SetFault, BodyIs, TakeInFault, TakenInAs, key_of, Names, Accepts, OfferFault, OfferAnswer}
use Rattle.promises.specs.Exact.{RefusesExactly, SetsExact, OffersExactly, OfferFaultsAnswered, AsksExactly, says_yes, asks}
use Rattle.promises.proofs.Forces.{WriterRefuses}
use Rattle.promises.proofs.LimitsExact.{entry_limit, limits-refuse}
use Rattle.promises.proofs.Numbers.{same_error}
use Rattle.promises.proofs.Exactly.{writes-exactly}
use Rattle.promises.proofs.Naming.{naming-refused, naming-faulty, named-laid, event-named, event-anonymous}
use Rattle.promises.proofs.BodyFaults.{body-faults}
use Rattle.promises.proofs.BodyForced.{body-forced}
use Rattle.promises.proofs.Demand2.{entries-mean}

-- what two constructors make is not the same: `apart cc`
pub apart : {X : Type 0} → ◌≡◌ {A = ℕ} 0 1 → X
apart e = absurd (omega arith)

-- ---- a lent set

-- the bytes are a set, or they are none
pub unfit-fault : (set : List ℕ) → lent_set set ≡ unfit → SetFault set 14
unfit-fault set lent = SetFault.no_set (λ s laid. apart (let clash : unfit ≡ form s = sym lent ∙ is-lent set s laid in cc))

pub fault-unfit : (set : List ℕ) (n : ℕ) → SetFault set n → (n ≡ 14) × (lent_set set ≡ unfit)
fault-unfit set n (SetFault.no_set none) = (refl, lent_none set none)

pub set-exact : (say : Lent → ℕ) (set : List ℕ) → say unfit ≡ 14 → ((s : List Entry) → say (form s) ≡ 0) → RefusesExactly (say (lent_set set)) (SetFault set)
set-exact say set bad good n = (go (lent_set set) refl, forced)
  where
    go : (l : Lent) → lent_set set ≡ l → (say l ≡ n) × (n ≡ 0 → ⊥) → SetFault set n
    go unfit lent (is, _) = let this : 14 ≡ n = sym bad ∙ is in rw (← this) (unfit-fault set lent)
    go (form s) lent (is, ne) = absurd (ne (sym is ∙ good s))

    forced : SetFault set n → (say (lent_set set) ≡ n) × (n ≡ 0 → ⊥)
    forced fault =
        let (this, lent) = fault-unfit set n fault in
        (rw (lent, this) bad, λ zero. omega arith)

-- ---- `take_in`

body-short : (body : List ℕ) {es : List Entry} {used : ℕ} → previous body ≡ parsed es used → length body ≤ body_limit
unfolding previous
body-short body {es} {used} read = leb-true _ _ (pick-parsed (leb (length body) body_limit) _ too_long es used read).0

module _ (body : List ℕ) (are : Bytes body) where
  pub body_is : {es : List Entry} {used : ℕ} → previous body ≡ parsed es used → BodyIs body es
  body_is {es} {used} read =
      let short = body-short body read in
      (short, (used, (entries-mean body es used are short).0 read))

  pub body-read : {es : List Entry} → BodyIs body es → (used : ℕ) × (previous body ≡ parsed es used)
  body-read {es} (short, (used, laid)) = (used, (entries-mean body es used are short).1 laid)

  take-in-given : (r : Refusal) → taken_in (previous body) ≡ refused r → TakeInFault body (number r)
  take-in-given r = go (previous body) refl
    where
      joined : (es : List Entry) → BodyIs body es → (j : Judged) → lawful es ≡ true → limits (taken_set es) ≡ j
          → saved_if j (body_bytes (taken_set es)) ≡ refused r → TakeInFault body (number r)
      joined es is fine good told e = apart cc
      joined es is (breaks x) good told e =
          let same : x ≡ r = cc in
          limits-refuse (taken_set es) (rw same at told)
          (λ over this. rw this (TakeInFault.crowded_entry is good over))
          (λ over this. rw this (TakeInFault.over_limits is good over))

      go : (p : Parse (List Entry)) → previous body ≡ p → taken_in p ≡ refused r → TakeInFault body (number r)
      go (refuse x) read e =
          let same : x ≡ r = cc in
          TakeInFault.bad_body (body-faults body are r (rw same at read))
      go (parsed es used) read e = pick-either (lawful es) e
          (λ good f. joined es (body_is read) (limits (taken_set es)) good refl f)
          (λ bad f. let same : r ≡ bad_gno = cc in rw same (TakeInFault.gno_rule (body_is read) bad))

  pub take-in-forced : (n : ℕ) → TakeInFault body n → WriterRefuses (taken_in (previous body)) n
  take-in-forced n (TakeInFault.bad_body fault) = let (r, e, is) = body-forced body are n fault in (r, rw e, is)
  take-in-forced n (TakeInFault.gno_rule is bad) = let (used, read) = body-read is in (bad_gno, rw (read, bad), refl)
  take-in-forced n (TakeInFault.crowded_entry {es = es} is good over) =
      let (used, read) = body-read is in
      (crowded, rw (read, good, (entry_limit (taken_set es)).1 over), refl)
  take-in-forced n (TakeInFault.over_limits is good over) = let (used, read) = body-read is in (full, rw (read, good, over), refl)

  take-in-writes : (bs : List ℕ) → taken_in (previous body) ≡ bytes bs → TakenInAs body bs
  take-in-writes bs = go (previous body) refl
    where
      joined : (es : List Entry) → BodyIs body es → (j : Judged) → lawful es ≡ true → limits (taken_set es) ≡ j
          → saved_if j (body_bytes (taken_set es)) ≡ bytes bs → TakenInAs body bs
      joined es is fine good told e = let same : body_bytes (taken_set es) ≡ bs = cc in rw (← same) (TakenInAs.joined is good told)
      joined es is (breaks x) good told e = apart cc

      go : (p : Parse (List Entry)) → previous body ≡ p → taken_in p ≡ bytes bs → TakenInAs body bs
      go (refuse x) read e = apart cc
      go (parsed es used) read e = pick-either (lawful es) e
          (λ good f. joined es (body_is read) (limits (taken_set es)) good refl f)
          (λ bad f. apart cc)

  take-in-written : (bs : List ℕ) → TakenInAs body bs → taken_in (previous body) ≡ bytes bs
  take-in-written bs (TakenInAs.joined is good within) = let (used, read) = body-read is in rw (read, good, within)

-- ---- a set's text

module _ (word set : List ℕ) where
  abbrev Text : List ℕ → Type 0
  Text bs = (s : List Entry) × SetLaid set s × (bs ≡ set_text word s)

  text-given : (r : Refusal) → listed_set word (lent_set set) ≡ refused r → SetFault set (number r)
  text-given r = go (lent_set set) refl
    where
      go : (l : Lent) → lent_set set ≡ l → listed_set word l ≡ refused r → SetFault set (number r)
      go unfit lent e = let this : number r ≡ 14 = cc in rw this (unfit-fault set lent)
      go (form s) lent e = apart cc

  text-forced : (n : ℕ) → SetFault set n → WriterRefuses (listed_set word (lent_set set)) n
  text-forced n fault = let (this, lent) = fault-unfit set n fault in (not_a_set, rw lent, sym this)

  text-writes : (bs : List ℕ) → listed_set word (lent_set set) ≡ bytes bs → Text bs
  text-writes bs = go (lent_set set) refl
    where
      go : (l : Lent) → lent_set set ≡ l → listed_set word l ≡ bytes bs → Text bs
      go unfit lent e = apart cc
      go (form s) lent e = (s, lent_is set s lent, cc)

  text-written : (bs : List ℕ) → Text bs → listed_set word (lent_set set) ≡ bytes bs
  text-written bs (s, laid, is) = rw (is-lent set s laid, is)

-- ---- together

pub sets-exact : SetsExact
sets-exact = record {
  check = λ set. set-exact (λ l. refusal_in (checked_of l)) set refl (λ s. refl);
  check_set = λ set. set-exact (λ l. refusal_in (set_read l)) set refl (λ s. refl);
  contains = λ set uuid tag gno. set-exact (λ l. refusal_in (contained l uuid tag gno)) set refl (λ s. refl);
  take_in = λ body out are. writes-exactly (taken_in (previous body)) out (TakeInFault body) (TakenInAs body) (take-in-given body are)
      (take-in-forced body are) (take-in-writes body are) (take-in-written body are);
  list_set = λ word set out. writes-exactly (listed_set word (lent_set set)) out (SetFault set) _ (text-given word set) (text-forced word set)
      (text-writes word set) (text-written word set);
}

-- ---- `offer`

out-fits : (bs out : List ℕ) → length bs ≤ length out → output_of out (bytes bs) ≡ bs ++ drop (length bs) out
unfolding output_of
out-fits bs out room = rw (le-leb (length bs) (length out) room)

out-short : (bs out : List ℕ) → leb (length bs) (length out) ≡ false → output_of out (bytes bs) ≡ out
unfolding output_of
out-short bs out over = rw over

module _ (set : List ℕ) (type : ℕ) (body : List ℕ) (out : List ℕ) where
  -- ---- a case forces its answer, and what is left in the output

  abbrev pub Ours : Result Offered WriteError → List ℕ → Type 0
  Ours a l = (offered (lent_set set) (event_of type body) (length out) ≡ a) × (output_of out (output (lent_set set) (event_of type body)) ≡ l)

  module _ {s : List Entry} (laid : SetLaid set s) where
    accepts : {after : List Entry} {case : ℕ → Offered} → Accepts s type body case after
        → (offered (lent_set set) (event_of type body) (length out) ≡ fitting case (length (body_bytes after)) (length out))
        × (output (lent_set set) (event_of type body) ≡ bytes (body_bytes after))
    accepts (Accepts.no_id event is) = rw (is-lent set s laid, event-anonymous type body event is) (refl, refl)
    accepts (Accepts.already n good there) = rw (is-lent set s laid, event-named type body n, good, there) (refl, refl)
    accepts (Accepts.taken n good new within) = rw (is-lent set s laid, event-named type body n, good, new, within) (refl, refl)

  -- the error with these numbers is answered
  pub record Answered (n len : ℕ) : Type 0 where
    pub error : WriteError
    pub number_is : error_number error ≡ n
    pub needed_is : error_needed error ≡ len
    pub answers : Ours (Err error) out

  refused-as : (r : Refusal) {n : ℕ} → number r ≡ n → Ours (Err (Refused r)) out → Answered n 0
  refused-as r is ours = record { error = Refused r; number_is = is; needed_is = refl; answers = ours }

  short-forced : (case : ℕ → Offered) (after : List Entry) (n len : ℕ) → ShortFault (body_bytes after) (length out) n len
      → offered (lent_set set) (event_of type body) (length out) ≡ fitting case (length (body_bytes after)) (length out)
      → output (lent_set set) (event_of type body) ≡ bytes (body_bytes after) → Answered n len
  short-forced case after n len (ShortFault.short over) answered left =
      let no : leb (length (body_bytes after)) (length out) ≡ false = lt-leb _ _ over in
      record {
        error = NoRoom (length (body_bytes after));
        number_is = refl;
        needed_is = refl;
        answers = (answered ∙ rw no, ap (output_of out) left ∙ out-short (body_bytes after) out no);
      }

  pub fault-forced : (n len : ℕ) → OfferFault set type body (length out) n len → Answered n len
  fault-forced n len (OfferFault.bad_set fault) =
      let (this, lent) = fault-unfit set n fault in
      refused-as not_a_set (sym this) (rw lent (refl, out-refused out not_a_set))
  fault-forced n len (OfferFault.bad_event {s = s} laid fault) =
      let (r, e, is) = naming-refused type body n fault in
      let said : event_of type body ≡ broken r = unfold event_of in rw e in
      refused-as r is (rw (is-lent set s laid, said) (refl, out-refused out r))
  fault-forced n len (OfferFault.gno_rule {s = s} laid named bad) =
      refused-as bad_gno refl (rw (is-lent set s laid, event-named type body named, bad) (refl, out-refused out bad_gno))
  fault-forced n len (OfferFault.crowded_entry {s = s} {e = e} laid named good new over) =
      let judged = (entry_limit (add (key_of e) e.gno s)).1 over in
      refused-as crowded refl (rw (is-lent set s laid, event-named type body named, good, new, judged) (refl, out-refused out crowded))
  fault-forced n len (OfferFault.over_limits {s = s} laid named good new over) =
      refused-as full refl (rw (is-lent set s laid, event-named type body named, good, new, over) (refl, out-refused out full))
  fault-forced n len (OfferFault.no_room {after = after} {case = case} laid ok lacks) =
      let (answered, left) = accepts laid ok in
      short-forced case after n len lacks answered left

  answer-forced : (a : Result Offered WriteError) (l : List ℕ) → OfferAnswer set type body out a l → Ours a l
  answer-forced a l (OfferAnswer.refused {x = x} fault) =
      let told = fault-forced _ _ fault in
      rw (same_error told.error x told.number_is told.needed_is) at told.answers
  answer-forced a l (OfferAnswer.accepted {after = after} laid ok room) =
      let (answered, left) = accepts laid ok in
      (answered ∙ rw (le-leb (length (body_bytes after)) (length out) room), ap (output_of out) left ∙ out-fits (body_bytes after) out room)

  -- ---- and an answer has its case

  module _ (are : Bytes body) {s : List Entry} (laid : SetLaid set s) where
    fits-or-not : {after : List Entry} {case : ℕ → Offered} → Accepts s type body case after
        → OfferAnswer set type body out (fitting case (length (body_bytes after)) (length out)) (output_of out (bytes (body_bytes after)))
    fits-or-not {after} ok = split (leb (length (body_bytes after)) (length out))
        (λ room. let fits = leb-true _ _ room in rw (room, out-fits (body_bytes after) out fits) (OfferAnswer.accepted laid ok fits))
        (λ over. rw (over, out-short (body_bytes after) out over) (OfferAnswer.refused (OfferFault.no_room laid ok (ShortFault.short (leb-false _ _ over)))))

    named-found : {e : GtidEvent} → Names type body e
        → OfferAnswer set type body out (offered_of s (names (key_of e) e.gno) (length out)) (output_of out (output_for s (names (key_of e) e.gno)))
    named-found {e} n = answer-cases s (key_of e) e.gno
        (λ bad is. rw (is, out-refused out bad_gno) (OfferAnswer.refused (OfferFault.gno_rule laid n bad)))
        (λ good there is. rw is (fits-or-not (Accepts.already n good there)))
        (λ good new within is. rw is (fits-or-not (Accepts.taken n good new within)))
        (λ r _ good new breaking is. limits-refuse (add (key_of e) e.gno s) breaking
        (λ over this. rw (is, this, out-refused out crowded) (OfferAnswer.refused (OfferFault.crowded_entry laid n good new over)))
        (λ over this. rw (is, this, out-refused out full) (OfferAnswer.refused (OfferFault.over_limits laid n good new over))))

    event-found : (p : Parse Seen) → named type body ≡ p
        → OfferAnswer set type body out (offered_of s (says type (record_in p)) (length out)) (output_of out (output_for s (says type (record_in p))))
    event-found (refuse r) read = rw (out-refused out r) (OfferAnswer.refused (OfferFault.bad_event laid (naming-faulty type body are r read)))
    event-found (parsed x used) read =
        let (laid_out, sent) = named-laid type body are x used read in
        split (eqb type 34)
        (λ is. rw is (fits-or-not (Accepts.no_id laid_out (eqb-true type 34 is))))
        (λ other. rw other
        (named-found {e = x.event} (record { present = x.present; used = used; laid = laid_out; named = eqb-false type 34 other; sent = sent })))

  answer-found : Bytes body → (l : Lent) → lent_set set ≡ l
      → OfferAnswer set type body out (offered l (event_of type body) (length out)) (output_of out (output l (event_of type body)))
  unfolding event_of
  answer-found are unfit lent = rw (out-refused out not_a_set) (OfferAnswer.refused (OfferFault.bad_set (unfit-fault set lent)))
  answer-found are (form s) lent = event-found are (lent_is set s lent) (named type body) refl

pub offers-exactly : OffersExactly ours
offers-exactly set t a l are = (
  λ (is, left). rw (is, left) at (answer-found set t.type t.body t.out are (lent_set set) refl),
  answer-forced set t.type t.body t.out a l,
)

pub offer-faults-answered : OfferFaultsAnswered
offer-faults-answered set type body room n len fault =
    let told = fault-forced set type body (replicate room 0) n len (rw (length-replicate {A = ℕ} room 0) fault) in
    (told.error, told.number_is, told.needed_is)

-- ---- `contains`

module _ (set uuid tag : List ℕ) (gno : ℕ) where
  asks-id : length uuid ≡ 16 → none_or_tag tag ≡ true → asks set uuid tag gno ≡ member set (uuid ++ tag) gno
  asks-id sixteen rule = go (lent_set set) refl
    where
      judged : (s : List Entry) → SetForm s → is_gno gno && has s (uuid ++ tag) gno ≡ has s (uuid ++ tag) gno
      judged s f = split (has s (uuid ++ tag) gno)
          (λ there. rw (has-gno s (uuid ++ tag) gno f there))
          (λ none. rw none (and-false (is_gno gno)))

      go : (l : Lent) → lent_set set ≡ l → says_yes (contained l uuid tag gno) ≡ lent_has l (uuid ++ tag) gno
      go unfit lent = refl
      go (form s) lent = rw (sixteen, rule) (judged s (lent_is set s lent).formed)

  asks-no-uuid : (length uuid ≡ 16 → ⊥) → asks set uuid tag gno ≡ false
  asks-no-uuid other = go (lent_set set)
    where
      go : (l : Lent) → says_yes (contained l uuid tag gno) ≡ false
      go unfit = refl
      go (form s) = rw (ne_eqb (length uuid) 16 other)

  asks-no-tag : none_or_tag tag ≡ false → asks set uuid tag gno ≡ false
  asks-no-tag bad = go (lent_set set)
    where
      go : (l : Lent) → says_yes (contained l uuid tag gno) ≡ false
      go unfit = refl
      go (form s) = rw bad (and-false (eqb (length uuid) 16))

pub asks-exactly : AsksExactly asks
asks-exactly = record { id = asks-id; no_uuid = asks-no-uuid; no_tag = asks-no-tag }

-- What follows from the page, of any calls that it holds of: the orders of refusals that the rules name, heads by what `within` says, a file by the
-- walk over its bytes, and that an empty chunk changes nothing. A reader need not believe it, and may look for it.
use Prim.Native.Nat.{ℕ, ◌≤◌, ◌<◌}
use mathlib.Core.Path.{◌≡◌, refl, sym, ap, ◌∙◌}
use mathlib.Core.Bool.{Bool, true, false}
use mathlib.Core.List.{List, [], ◌∷◌, ◌++◌}
use native.Mathlib.Omega.{arith}
use lib.ListN.{length}
use Rattle.misc.specs.Parse.{Bytes, refusal_in}
use Rattle.misc.specs.Body.{body_limit}
use Rattle.misc.specs.Forms.{Form}
use Rattle.misc.specs.declared.refusal.Refusal.{Refusal}
use Rattle.misc.specs.declared.refusal.WriteError.{WriteError}
use Rattle.misc.specs.Refusal.{error_number, error_needed, diverged}
use Rattle.misc.specs.Output.{answer_of, written_number}
use Rattle.packets.specs.Key.{Key}
use Rattle.previous_gtids_event.specs.Entry.{Entry}
use Rattle.previous_gtids_event.specs.Previous.{previous}
use Rattle.previous_gtids_event.specs.Answers.{previous_read}
use Rattle.gtid_event.specs.declared.GtidEvent.{GtidEvent}
use Rattle.gtid_event_read.specs.Read.{seen, gtid_read}
use Rattle.gtid_event_write.specs.Writable.{writable}
use Rattle.gtid_event_write.specs.Write.{event_output}
use Rattle.gtid_sets.specs.Set.{has}
use Rattle.gtid_sets.specs.TakeIn.{lawful, taken_set}
use Rattle.gtid_sets.specs.Limits.{EntryOver}
use Rattle.gtid_sets.specs.Lent.{SetLaid}
use Rattle.set_join.specs.Answers.{take_in_answers}
use Rattle.resume_set.specs.declared.Offered.{Offered}
use Rattle.resume_set_laws.specs.History.{Turn, Offering}
use Rattle.binlog.specs.Format.{trailer}
use Rattle.binlog.specs.Run.{walking, Word, chunk, end, spelled, each_byte}
use Rattle.binlog.proofs.SaysLaws.{says_all}
use Rattle.binlog.proofs.EndSaysLaws.{end-says-all}
use Rattle.binlog_reader.specs.Does.{does}
use Rattle.binlog_laws.specs.Files.{FileRead, read_in}
use Rattle.two_sets.specs.declared.Choice.{Choice}
use Rattle.two_sets.specs.declared.Choice.TheVariants.{First, Second}
use Rattle.std.specs.Prelude.{Result, Ok, Err}
use Rattle.promises.specs.Faults.{ValueFault, FieldFault, TaggedFault, UntaggedFault, EventFault}
use Rattle.promises.specs.BodyFaults.{BodyFault}
use Rattle.promises.specs.PlainFaults.{RecordFault, ShortFault, WriteFault}
use Rattle.promises.specs.SetFaults.{SetFault, BodyIs, TakeInFault, NamingFault, OfferFault, OfferAnswer}
use Rattle.promises.specs.Exact.{EventsExact, BodiesExact, SetsExact, OffersExactly}
use Rattle.promises.specs.Rules.{Rules}
use Rattle.promises.specs.Told.{SetsTold}
use Rattle.promises.specs.TwoSets.{Contains, Lacks, WithinAnswer, ComparesExactly}
use Rattle.promises.specs.Files.{ReadsFiles}
use Rattle.promises.specs.Heads.{HeadFault, HeadAnswer, ChoosesExactly}
use Rattle.promises.proofs.SetsExact.{apart, offer-faults-answered}

-- ---- which of several faults counts

-- a body that is too long is 11, whatever else is wrong with it, and 14 where it is lent as a set
module _ (s : List ℕ) (are : Bytes s) (long : body_limit < length s) where
  pub long-event : EventsExact → (type : ℕ) → refusal_in (gtid_read (seen type s)) ≡ 11
  long-event x type = ((x.read type s are 11).1 (EventFault.too_long long)).0

  pub long-body : BodiesExact → refusal_in (previous_read (previous s)) ≡ 11
  long-body x = ((x.read s are 11).1 (BodyFault.too_long s long)).0

  pub long-take-in : SetsExact → (out : List ℕ) → written_number (take_in_answers s out) ≡ 11
  long-take-in x out = ((x.take_in s out are 11 0).1 (WriteFault.itself (TakeInFault.bad_body (BodyFault.too_long s long)))).0

  pub long-set : Rules → SetFault s 14
  long-set x = SetFault.no_set (λ es laid. omega (arith, long, (x.sets_are_bodies s es laid).0, x.longest_set_is, x.longest_body))

-- 9 before 1: a payload smaller than its envelope, however many bytes there are
pub small-first : EventsExact → {size last : ℕ} {a b : List ℕ} (rest : List ℕ) → Form size a → Form last b → size < length (2 ∷ (a ++ b))
    → Bytes (2 ∷ (a ++ (b ++ rest))) → length (2 ∷ (a ++ (b ++ rest))) ≤ body_limit → refusal_in (gtid_read (seen 42 (2 ∷ (a ++ (b ++ rest))))) ≡ 9
small-first x rest p q small are short = ((x.read 42 _ are 9).1 (EventFault.tagged short refl (TaggedFault.small_payload rest p q small))).0

-- 17 before 16, on the set of all ids: an entry with more than 1,024 intervals counts, however many entries and intervals there are
pub crowded-first : SetsExact → (body out : List ℕ) {es : List Entry} → Bytes body → BodyIs body es → lawful es ≡ true → EntryOver 1024 (taken_set es)
    → written_number (take_in_answers body out) ≡ 17
crowded-first x body out are is fine over = ((x.take_in body out are 17 0).1 (WriteFault.itself (TakeInFault.crowded_entry is fine over))).0

-- 12 before 13
pub writable-first : EventsExact → (e : GtidEvent) (out : List ℕ) → writable e ≡ false → written_number (answer_of out (event_output e)) ≡ 12
writable-first x e out can't = ((x.write e out 12 0).1 (WriteFault.itself (RecordFault.not_writable can't))).0

-- an offer that has a case of `OfferFault` is refused with its number, whatever else is wrong: 14, the event's own, 21, 15, 17, 16, 13
pub offer-refuses : {f : Offering} → OffersExactly f → (set : List ℕ) (t : Turn) → Bytes t.body → {n len : ℕ}
    → OfferFault set t.type t.body (length t.out) n len
    → (x : WriteError) × (error_number x ≡ n) × (error_needed x ≡ len) × (f.answers set t ≡ Err x) × (f.leaves set t ≡ t.out)
offer-refuses exactly set t are {n} {len} fault =
    let (x, is, needed) = offer-faults-answered set t.type t.body (length t.out) n len fault in
    let (answers, left) = (exactly set t _ _ are).1 (OfferAnswer.refused (rw (is, needed) fault)) in
    (x, is, needed, answers, left)

-- 21 is no number of a fault of the event itself
small-value : {last id n : ℕ} {rest : List ℕ} → ValueFault last id rest n → n ≤ 6
small-value (ValueFault.cut_number _ _ _) = omega arith
small-value (ValueFault.cut_item _ _ _) = omega arith
small-value (ValueFault.cut_tag _ _ _) = omega arith
small-value (ValueFault.large_flags _ _ _) = omega arith
small-value (ValueFault.large_item _ _ _ _ _) = omega arith
small-value (ValueFault.large_version _ _ _ _) = omega arith
small-value (ValueFault.negative _ _ _ _) = omega arith
small-value (ValueFault.unknown_id _ _) = omega arith
small-value (ValueFault.tag_rule _ _ _ _) = omega arith

small-field : {last n : ℕ} {s : List ℕ} → FieldFault last s n → n ≤ 6
small-field (FieldFault.cut_id _ _ _) = omega arith
small-field (FieldFault.bad_value _ _ value) = small-value value

small-tagged : {n : ℕ} {s : List ℕ} → TaggedFault s n → n ≤ 9
small-tagged TaggedFault.cut_version = omega arith
small-tagged (TaggedFault.cut_size _) = omega arith
small-tagged (TaggedFault.cut_last _ _) = omega arith
small-tagged (TaggedFault.cut_payload _ _ _ _ _) = omega arith
small-tagged (TaggedFault.wrong_version _) = omega arith
small-tagged (TaggedFault.small_payload _ _ _ _) = omega arith
small-tagged (TaggedFault.in_fields _ _ _ _ fields) = omega (arith, small-field fields)
small-tagged (TaggedFault.no_tag _ _ _ _ _ _) = omega arith

small-untagged : {n : ℕ} {s : List ℕ} → UntaggedFault s n → n ≤ 10
small-untagged (UntaggedFault.cut_opening _ _) = omega arith
small-untagged (UntaggedFault.cut_clock _ _ _ _) = omega arith
small-untagged (UntaggedFault.cut_timestamp _ _ _ _ _ _ _ _ _ _) = omega arith
small-untagged (UntaggedFault.cut_length _ _ _ _ _ _ _ _) = omega arith
small-untagged (UntaggedFault.cut_version _ _ _ _ _ _ _ _ _ _ _ _ _ _) = omega arith
small-untagged (UntaggedFault.bad_lead _ _ _ _ _ _ _ _ _) = omega arith

small-event : {type n : ℕ} {s : List ℕ} → EventFault type s n → n ≤ 11
small-event (EventFault.too_long _) = omega arith
small-event (EventFault.wrong_type _ _ _ _) = omega arith
small-event (EventFault.untagged _ _ fault) = omega (arith, small-untagged fault)
small-event (EventFault.tagged _ _ fault) = omega (arith, small-tagged fault)

naming-alone : {type n : ℕ} {body : List ℕ} → NamingFault type body n → n ≡ 21 → type ≡ 42
naming-alone (NamingFault.own fault) this = absurd (omega (arith, small-event fault))
naming-alone (NamingFault.no_id laid is none) this = is

short-alone : {X : Type 0} {bs : List ℕ} {room n len : ℕ} → ShortFault bs room n len → n ≡ 21 → X
short-alone (ShortFault.short _) this = absurd (omega arith)

offer-alone : {set : List ℕ} {type : ℕ} {body : List ℕ} {room n len : ℕ} → OfferFault set type body room n len → n ≡ 21 → type ≡ 42
offer-alone (OfferFault.bad_set (SetFault.no_set _)) this = absurd (omega arith)
offer-alone (OfferFault.bad_event _ fault) this = naming-alone fault this
offer-alone (OfferFault.gno_rule _ _ _) this = absurd (omega arith)
offer-alone (OfferFault.crowded_entry _ _ _ _ _) this = absurd (omega arith)
offer-alone (OfferFault.over_limits _ _ _ _ _) this = absurd (omega arith)
offer-alone (OfferFault.no_room _ _ lacks) this = short-alone lacks this

-- 21 is said of a tagged event alone, whatever the set
pub tagged_alone : {f : Offering} → OffersExactly f → (set : List ℕ) (t : Turn) → Bytes t.body → {x : WriteError} → f.answers set t ≡ Err x
    → error_number x ≡ 21 → t.type ≡ 42
tagged_alone {f} exactly set t are {x} e this = go (Err x) (f.leaves set t) ((exactly set t _ _ are).0 (e, refl)) refl
  where
    go : (a : Result Offered WriteError) (l : List ℕ) → OfferAnswer set t.type t.body t.out a l → a ≡ Err x → t.type ≡ 42
    go a l (OfferAnswer.refused {x = y} fault) is = let same : y ≡ x = cc in offer-alone fault (rw same this)
    go a l (OfferAnswer.accepted laid accepts fits) is = apart cc

-- ---- heads, by what `within` says, asked both ways: 22 exactly if it says no twice

abbrev yes : Result Bool Refusal
yes = Ok true

abbrev no : Result Bool Refusal
no = Ok false

-- two sets, as their bytes are laid out, and what holds of them
record Pair (P : List Entry → List Entry → Type 0) (a b : List ℕ) : Type 0 where
  s : List Entry
  t : List Entry
  left : SetLaid a s
  right : SetLaid b t
  holds : P s t

yes-in : {a b : List ℕ} (r : Result Bool Refusal) → WithinAnswer a b r → r ≡ yes → Pair (λ s t. Contains t s) a b
yes-in r (WithinAnswer.refused _) e = apart cc
yes-in r (WithinAnswer.inside {s = s} {t = t} i j all) e = record { s = s; t = t; left = i; right = j; holds = all }
yes-in r (WithinAnswer.missing _ _ _) e = apart cc

no-in : {a b : List ℕ} (r : Result Bool Refusal) → WithinAnswer a b r → r ≡ no → Pair (λ s t. Lacks t s) a b
no-in r (WithinAnswer.refused _) e = apart cc
no-in r (WithinAnswer.inside _ _ _) e = apart cc
no-in r (WithinAnswer.missing {s = s} {t = t} i j lacks) e = record { s = s; t = t; left = i; right = j; holds = lacks }

module _ (told : SetsTold) {which : List ℕ → List ℕ → Result Choice Refusal} (chooses : ChoosesExactly which) {within : List ℕ → List ℕ → Result Bool Refusal}
    (compares : ComparesExactly within) (first second : List ℕ) where
  same : {set : List ℕ} {s t : List Entry} → SetLaid set s → SetLaid set t → (k : Key) (n : ℕ) → has s k n ≡ has t k n
  same {set} {s} {t} i j k n = sym (told.members set s i k n) ∙ told.members set t j k n

  -- an id that one set lacks of another, by whatever entries their bytes are said to be
  still-lacks : {a b : List ℕ} {s s' t t' : List Entry} → SetLaid a s → SetLaid a s' → SetLaid b t → SetLaid b t' → Lacks s t → Lacks s' t'
  still-lacks i i' j j' l = record {
    key = l.key;
    gno = l.gno;
    there = same j' j l.key l.gno ∙ l.there;
    lacked = same i' i l.key l.gno ∙ l.lacked;
  }

  pub first-from : within second first ≡ yes → which first second ≡ Ok First
  first-from e = let y = yes-in _ ((compares second first _).0 e) refl in (chooses first second (Ok First)).1 (HeadAnswer.first y.right y.left y.holds)

  pub second_from : within first second ≡ yes → within second first ≡ no → which first second ≡ Ok Second
  second_from e f =
      let y = yes-in _ ((compares first second _).0 e) refl in
      let n = no-in _ ((compares second first _).0 f) refl in
      (chooses first second (Ok Second)).1 (HeadAnswer.second y.left y.right (still-lacks n.right y.left n.left y.right n.holds) y.holds)

  pub neither-from : within first second ≡ no → within second first ≡ no → which first second ≡ Err diverged
  neither-from e f =
      let m = no-in _ ((compares first second _).0 e) refl in
      let n = no-in _ ((compares second first _).0 f) refl in
      (chooses first second (Err diverged)).1
      (HeadAnswer.refused (HeadFault.apart m.left m.right m.holds (still-lacks n.right m.left n.left m.right n.holds)))

  pub first_to : which first second ≡ Ok First → within second first ≡ yes
  first_to e = go (Ok First) ((chooses first second (Ok First)).0 e) refl
    where
      go : (r : Result Choice Refusal) → HeadAnswer first second r → r ≡ Ok First → within second first ≡ yes
      go r (HeadAnswer.refused _) e = apart cc
      go r (HeadAnswer.first i j all) e = (compares second first _).1 (WithinAnswer.inside j i all)
      go r (HeadAnswer.second _ _ _ _) e = apart cc

  pub second-to : which first second ≡ Ok Second → (within first second ≡ yes) × (within second first ≡ no)
  second-to e = go (Ok Second) ((chooses first second (Ok Second)).0 e) refl
    where
      go : (r : Result Choice Refusal) → HeadAnswer first second r → r ≡ Ok Second → (within first second ≡ yes) × (within second first ≡ no)
      go r (HeadAnswer.refused _) e = apart cc
      go r (HeadAnswer.first _ _ _) e = apart cc
      go r (HeadAnswer.second i j lacks all) e =
          ((compares first second _).1 (WithinAnswer.inside i j all), (compares second first _).1 (WithinAnswer.missing j i lacks))

-- ---- a file

-- what is read is the walk over the bytes, however they came; and where the end is named behind them
module _ {room : ℕ} {set : List ℕ} {checksums : Bool} {f : List Word → FileRead} (x : ReadsFiles room set checksums f) {s : List Entry}
    (laid : SetLaid set s) (bs : List ℕ) (ws : List Word) where
  pub walks : spelled ws ≡ spelled (chunk bs ∷ []) → f ws ≡ read_in (walking (does room) (trailer checksums) set bs false)
  walks same = x.cut ws (chunk bs ∷ []) same ∙ x.says s bs _ laid (says_all (does room) (trailer checksums) set bs)

  pub walks-to-end : spelled ws ≡ spelled (chunk bs ∷ end ∷ []) → f ws ≡ read_in (walking (does room) (trailer checksums) set bs true)
  walks-to-end same = x.cut ws (chunk bs ∷ end ∷ []) same ∙ x.end_says s bs _ laid (end-says-all (does room) (trailer checksums) set bs)

-- an empty chunk spells nothing, and so, by `cut`, it changes nothing
pub empty-chunk : (us ws : List Word) → spelled (us ++ chunk [] ∷ ws) ≡ spelled (us ++ ws)
empty-chunk [] ws = refl
empty-chunk (chunk bs ∷ us) ws = ap (λ (l : List Word). each_byte bs ++ l) (empty-chunk us ws)
empty-chunk (end ∷ us) ws = ap (λ (l : List Word). end ∷ l) (empty-chunk us ws)

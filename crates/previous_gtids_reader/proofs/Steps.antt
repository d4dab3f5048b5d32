-- The steps give exactly what reading the whole body gives: its entries in order, and then the end (`steps-give`, `steps-end`); where the body
-- is refused, the entries before the fault and then that refusal, however often one asks again (`steps-refuse`).
use mathlib.Core.Path.{◌≡◌, refl, sym, ap, ◌∙◌}
use mathlib.Core.List.{List, [], ◌∷◌}
use Prim.Native.Nat.{ℕ, zero, suc, ◌+◌, ◌-◌, ◌<◌}
use native.Mathlib.Omega.{arith}
use lib.ListN.{length, get_or}
use Rattle.std.specs.Prelude.{None, Some, Result, Ok, Err}
use Rattle.misc.specs.declared.refusal.Refusal.{Refusal}
use Rattle.misc.specs.Parse.{Parse, refuse, parsed, many}
use Rattle.misc.proofs.ParseLaws.{never}
use Rattle.misc.proofs.Walk.{ahead, many-none, many-next, many-refused}
use Rattle.previous_gtids_event.specs.Entry.{Entry}
use Rattle.previous_gtids_event.specs.Previous.{entry_at, previous}
use Rattle.previous_gtids_event.specs.declared.HeaderRead.{HeaderRead}
use Rattle.previous_gtids_event.proofs.Reading.{headless, headed}
use Rattle.previous_gtids_reader.specs.declared.Cursor.{Cursor}
use Rattle.previous_gtids_reader.specs.Steps.{cursor_at, start_of, entry_step, step_of, asked_at, asked, onwards, cursor_after, step_after}
use Rattle.previous_gtids_reader.proofs.StepLaws.{says, Hands, start-refused, start-read, step_end, step-there, after_none, after_next}
use Rattle.previous_gtids_reader.proofs.StepLaws.{after-still, after_more, step_after_lem, never-begun}

-- the steps from a cursor on hand out these entries, in order
abbrev pub Gives : List ℕ → Cursor → List Entry → Type 0
Gives s c es = (d : Entry) (k : ℕ) → k < length es → Hands s (cursor_after s k c) (get_or es k d)

gives_none : (s : List ℕ) (c : Cursor) → Gives s c []
gives_none s c d k h = absurd (omega arith)

gives_one : (s : List ℕ) (c c' : Cursor) (e : Entry) (es : List Entry) → onwards c (step_of s c) ≡ c' → Hands s c e → Gives s c' es → Gives s c (e ∷ es)
gives_one s c c' e es m h g d zero lt = rw (after_none s c) h
gives_one s c c' e es m h g d (suc k) lt = rw (after_next s k c, m) (g d k (omega arith))

-- all of these entries, and then none is left
abbrev AllGiven : List ℕ → ℕ → ℕ → List Entry → ℕ → Type 0
AllGiven s n at es used = Gives s (cursor_at n at) es × (cursor_after s (length es) (cursor_at n at) ≡ cursor_at 0 used)

-- some entries, and then a refusal
pub record Stops (s : List ℕ) (c : Cursor) (x : Refusal) : Type 0 where
  pub before : List Entry
  pub gives : Gives s c before
  pub is : step_of s (cursor_after s (length before) c) ≡ Err x

-- ---- from a cursor on
module _ (s : List ℕ) (r : HeaderRead) (z : Ok r ≡ says s) where
  -- the entry at a place
  abbrev read : ℕ → Parse Entry
  read = entry_at r.tagged s

  step_entry : (n at : ℕ) (e : Entry) (next : ℕ) → read at ≡ parsed e next → step_of s (cursor_at (suc n) at) ≡ Ok (Some (entry_step n e next))
  step_entry n at e next p =
      let less : suc n - 1 ≡ n = omega arith in
      step-there s r z (cursor_at (suc n) at) (λ none. omega arith) (parsed e next) p ∙ ap (λ (m : ℕ). Ok (Some (entry_step m e next))) less

  step-fault : (n at : ℕ) (x : Refusal) → read at ≡ refuse x → step_of s (cursor_at (suc n) at) ≡ Err x
  step-fault n at x p = step-there s r z (cursor_at (suc n) at) (λ none. omega arith) (refuse x) p

  hands-entry : (n at : ℕ) (e : Entry) (next : ℕ) → read at ≡ parsed e next → Hands s (cursor_at (suc n) at) e
  hands-entry n at e next p =
      let less : suc n - 1 ≡ n = omega arith in
      record {
        header = r;
        says_so = z;
        next = next;
        whole = p;
        is = step_entry n at e next p ∙ ap (λ (m : ℕ). Ok (Some (entry_step m e next))) (sym less);
      }

  -- all of the entries that are read, and then none is left
  all-given : (n at : ℕ) (es : List Entry) (used : ℕ) → many read n at ≡ parsed es used → AllGiven s n at es used
  all-given zero at es used m = go es (sym (many-none read at) ∙ m)
    where
      go : (es : List Entry) → parsed [] at ≡ parsed es used → AllGiven s 0 at es used
      go [] e =
          let same : at ≡ used = cc in
          (gives_none s (cursor_at 0 at), after_none s (cursor_at 0 at) ∙ ap (cursor_at 0) same)
      go (a ∷ others) e = absurd (let clash : ◌≡◌ {A = ℕ} 0 1 = cc in omega arith)
  all-given (suc n) at es used m = go (λ next others. all-given n next others used) (read at) refl
    where
      rest : ((next : ℕ) (others : List Entry) → many read n next ≡ parsed others used → AllGiven s n next others used)
          → (e : Entry) (next : ℕ) → read at ≡ parsed e next → (q : Parse (List Entry)) → many read n next ≡ q → ahead e q ≡ parsed es used
          → AllGiven s (suc n) at es used
      rest on e next p (refuse x) i h = never h
      rest on e next p (parsed others last) i h =
          let same : last ≡ used = cc in
          let all : e ∷ others ≡ es = cc in
          let (g, l) = on next others (i ∙ ap (parsed others) same) in
          let c = cursor_at (suc n) at in
          let moved : onwards c (step_of s c) ≡ cursor_at n next = ap (onwards c) (step_entry n at e next p) in
          rw (← all) (
            gives_one s c (cursor_at n next) e others moved (hands-entry n at e next p) g,
            after_next s (length others) c ∙ ap (cursor_after s (length others)) moved ∙ l,
          )

      go : ((next : ℕ) (others : List Entry) → many read n next ≡ parsed others used → AllGiven s n next others used)
          → (p : Parse Entry) → read at ≡ p → AllGiven s (suc n) at es used
      go on (refuse x) p = never (sym (many-refused read n at x p) ∙ m)
      go on (parsed e next) p = rest on e next p (many read n next) refl (sym (many-next read n at e next p) ∙ m)

  stops : (n at : ℕ) (x : Refusal) → many read n at ≡ refuse x → Stops s (cursor_at n at) x
  stops zero at x m = never (sym m ∙ many-none read at)
  stops (suc n) at x m = go (λ next. stops n next x) (read at) refl
    where
      rest : ((next : ℕ) → many read n next ≡ refuse x → Stops s (cursor_at n next) x)
          → (e : Entry) (next : ℕ) → read at ≡ parsed e next → (q : Parse (List Entry)) → many read n next ≡ q → ahead e q ≡ refuse x
          → Stops s (cursor_at (suc n) at) x
      rest on e next p (refuse y) i h =
          let o = on next (i ∙ h) in
          let c = cursor_at (suc n) at in
          let moved : onwards c (step_of s c) ≡ cursor_at n next = ap (onwards c) (step_entry n at e next p) in
          let further : cursor_after s (length (e ∷ o.before)) c ≡ cursor_after s (length o.before) (cursor_at n next) =
          after_next s (length o.before) c ∙ ap (cursor_after s (length o.before)) moved in
          record {
            before = e ∷ o.before;
            gives = gives_one s c (cursor_at n next) e o.before moved (hands-entry n at e next p) o.gives;
            is = ap (step_of s) further ∙ o.is;
          }
      rest on e next p (parsed others last) i h = never (sym h)

      go : ((next : ℕ) → many read n next ≡ refuse x → Stops s (cursor_at n next) x)
          → (p : Parse Entry) → read at ≡ p → Stops s (cursor_at (suc n) at) x
      go on (refuse y) p =
          let c = cursor_at (suc n) at in
          let same : ◌≡◌ {A = Parse (List Entry)} (refuse y) (refuse x) = sym (many-refused read n at y p) ∙ m in
          let one : y ≡ x = cc in
          record {
            before = [];
            gives = gives_none s c;
            is = ap (step_of s) (after_none s c) ∙ step-fault n at x (p ∙ ap refuse one);
          }
      go on (parsed e next) p = rest on e next p (many read n next) refl (sym (many-next read n at e next p) ∙ m)

-- ---- from the start on

-- the step that has k before it hands out an entry
pub record HandsAt (s : List ℕ) (k : ℕ) (e : Entry) : Type 0 where
  pub begin : Cursor
  pub begins : start_of s ≡ Ok begin
  pub hands : Hands s (cursor_after s k begin) e

-- the first steps hand out these entries, in order
abbrev pub GivesFirst : List ℕ → List Entry → Type 0
GivesFirst s es = (d : Entry) (k : ℕ) → k < length es → HandsAt s k (get_or es k d)

gives-first : (s : List ℕ) (c : Cursor) → start_of s ≡ Ok c → (es : List Entry) → Gives s c es → GivesFirst s es
gives-first s c begins es g d k h = record { begin = c; begins = begins; hands = g d k h }

module _ (s : List ℕ) where
  -- a step that hands out nothing is repeated
  repeats : (n : ℕ) (b c : Cursor) → start_of s ≡ Ok b → cursor_after s n b ≡ c → onwards c (step_of s c) ≡ c → (m : ℕ)
      → step_after s (n + m) ≡ step_after s n
  repeats n b c begins e h m =
      step_after_lem s (n + m) b begins
      ∙ ap (asked s) (after_more s n m b ∙ ap (cursor_after s m) e ∙ after-still s c h m ∙ sym e)
      ∙ sym (step_after_lem s n b begins)

  -- what the answer tells of an entry that is handed out
  pub tells : (k : ℕ) (e : Entry) → HandsAt s k e → (left : ℕ) × (next : ℕ) × (at : ℕ)
      × (step_after s k ≡ Ok (record { step = Some (entry_step left e next); at = at }))
  tells k e h =
      let c = cursor_after s k h.begin in
      (c.left - 1, h.hands.next, c.at, step_after_lem s k h.begin h.begins ∙ ap (asked_at c) h.hands.is)

  module _ (es : List Entry) (used : ℕ) (read : previous s ≡ parsed es used) where
    -- the start, from which these entries are handed out, up to where the bytes used end; there the end is
    record Walked : Type 0 where
      begin : Cursor
      begins : start_of s ≡ Ok begin
      gives : Gives s begin es
      comes : cursor_after s (length es) begin ≡ cursor_at 0 used
      ends : step_of s (cursor_at 0 used) ≡ Ok None

    given : Walked
    given = go (says s) refl
      where
        go : (answer : Result HeaderRead Refusal) → answer ≡ says s → Walked
        go (Err x) is = never (sym (headless s is) ∙ read)
        go (Ok r) is =
            let (g, l) = all-given s r is r.entries 8 es used (sym (headed s is).0 ∙ read) in
            record {
              begin = cursor_at r.entries 8;
              begins = sym (start-read s r is);
              gives = g;
              comes = l;
              ends = step_end s r is (cursor_at 0 used) refl;
            }

    -- step number k hands out entry number k of those that reading gave
    pub steps-give : GivesFirst s es
    steps-give = gives-first s given.begin given.begins es given.gives

    -- behind the last entry comes the end, where the bytes used end
    pub steps-end : step_after s (length es) ≡ Ok (record { step = None; at = used })
    steps-end =
        step_after_lem s (length es) given.begin given.begins ∙ ap (asked s) given.comes ∙ ap (asked_at (cursor_at 0 used)) given.ends

    -- and it stays the end
    pub steps-end-again : (m : ℕ) → step_after s (length es + m) ≡ step_after s (length es)
    steps-end-again m =
        repeats (length es) given.begin (cursor_at 0 used) given.begins given.comes (ap (onwards (cursor_at 0 used)) given.ends) m

-- a body that is refused: the entries before the fault, then its refusal, and the same again
pub record Refuses (s : List ℕ) (x : Refusal) : Type 0 where
  pub before : List Entry
  pub gives : GivesFirst s before
  pub refused : step_after s (length before) ≡ Err x
  pub again : (m : ℕ) → step_after s (length before + m) ≡ step_after s (length before)

pub steps-refuse : (s : List ℕ) (x : Refusal) → previous s ≡ refuse x → Refuses s x
steps-refuse s x read = go (says s) refl
  where
    go : (answer : Result HeaderRead Refusal) → answer ≡ says s → Refuses s x
    go (Err y) is =
        let same : ◌≡◌ {A = Parse (List Entry)} (refuse y) (refuse x) = sym (headless s is) ∙ read in
        let one : y ≡ x = cc in
        let begins = start-refused s is in
        record {
          before = [];
          gives = λ d k h. absurd (omega arith);
          refused = sym (never-begun s 0 begins) ∙ ap Err one;
          again = λ m. sym (never-begun s (0 + m) begins) ∙ never-begun s 0 begins;
        }
    go (Ok r) is =
        let begin = cursor_at r.entries 8 in
        let begins = sym (start-read s r is) in
        let o = stops s r is r.entries 8 x (sym (headed s is).0 ∙ read) in
        let n = length o.before in
        let c = cursor_after s n begin in
        record {
          before = o.before;
          gives = gives-first s begin begins o.before o.gives;
          refused = step_after_lem s n begin begins ∙ ap (asked_at c) o.is;
          again = repeats s n begin c begins refl (ap (onwards c) o.is);
        }

-- The statements of `specs/Exact.antt` for the reader of Previous-GTIDs bodies.
use Prim.Native.Nat.{ℕ, zero, suc, ◌+◌, ◌-◌, ◌≤◌, ◌<◌}
use mathlib.Core.Path.{◌≡◌, refl, sym, ap, subst, ◌∙◌}
use mathlib.Core.Bool.{Bool}
use mathlib.Core.List.{List, [], ◌∷◌, ◌++◌}
use native.Mathlib.Omega.{arith}
use lib.Dec.{eqb, leb}
use lib.ListN.{length, drop}
use borrow.Author.Tests.{le-leb, lt-leb, ne_eqb}
use Rattle.misc.specs.Pick.{pick}
use Rattle.misc.specs.declared.refusal.Refusal.{Refusal}
use Rattle.misc.specs.Refusal.{number}
use Rattle.misc.specs.Parse.{Bytes, Parse, refuse, parsed, and_then, many, part, refusal_of, refusal_in}
use Rattle.misc.specs.Body.{body_limit, of_body}
use Rattle.misc.specs.Le.{le_of, le_at}
use Rattle.misc.proofs.ParseLaws.{split, never, no_zero}
use Rattle.misc.proofs.Bounds.{front_bytes}
use Rattle.misc.proofs.LeLaws.{le-here, le-gone}
use Rattle.misc.proofs.Places.{from_next}
use Rattle.misc.proofs.Walk.{ahead, many-none, many-next}
use Rattle.packets.proofs.Tests as tests
use Rattle.previous_gtids_event.specs.Entry.{Entry, entry}
use Rattle.previous_gtids_event.specs.Previous.{entry_at, says_tagged, says_count}
use Rattle.previous_gtids_event.proofs.Laying.{header-reads, entries-read}
use Rattle.previous_gtids_event.proofs.Accepting.{header-found, entries-found}
use Rattle.previous_gtids_reader.specs.declared.Cursor.{Cursor}
use Rattle.previous_gtids_reader.specs.declared.Step.{Step}
use Rattle.previous_gtids_reader.specs.Held.{begun}
use Rattle.previous_gtids_reader.specs.Steps.{cursor_at, start_of, entry_step, stepped, headed_step, onwards, step_of, asked_at, cursor_after, step_after}
use Rattle.previous_gtids_reader.proofs.StepLaws.{after_none, after_next, after-still, step_after_lem}
use Rattle.std.specs.Borrow.{Bor}
use Rattle.std.specs.Prelude.{Option, Some, None, Result, Ok, Err}
use Rattle.promises.specs.PlainFaults.{FixedFault, OfBody, HeadedFault, NumberFault}
use Rattle.promises.specs.Exact.{RefusesExactly, ReaderExact}
use Rattle.promises.proofs.Forces.{many-stops}
use Rattle.promises.proofs.IntegersExact.{fixed-given, fixed-forced}
use Rattle.promises.proofs.BodyForced.{entry-forced}
use Rattle.promises.proofs.Exactly.{answers-exactly}
use Rattle.promises.proofs.BodiesExact.{of-body-exact, entry-given, headed, headed-exact}

-- ---- the start

start-exact : (s : List ℕ) → RefusesExactly (refusal_in (start_of s)) (OfBody s (FixedFault 8 s))
unfolding start_of
start-exact s = answers-exactly _ _ _
    (of-body-exact s (le_at 8 s 0) (FixedFault 8 s) (fixed-given 8 (omega arith) s 0) (fixed-forced 8 (omega arith) s 0))

-- a reader is refused as its start is
begun-refusal : (body : Bor (List ℕ)) (start : Result Cursor Refusal) → refusal_in (begun body start) ≡ refusal_in start
begun-refusal body (Ok cursor) = refl
begun-refusal body (Err r) = refl

new-exact : (body : Bor (List ℕ)) → RefusesExactly (refusal_in (begun body (start_of body.now))) (OfBody body.now (FixedFault 8 body.now))
new-exact body = rw (begun-refusal body (start_of body.now)) (start-exact body.now)

-- ---- one step

module _ (s : List ℕ) (c : Cursor) where
  step-says : refusal_in (step_of s c) ≡ refusal_of (of_body s (headed c.left s c.at))
  unfolding step_of
  step-says = tests.split (leb (length s) body_limit) (λ short. rw short (header-says (le_at 8 s 0))) (λ long. rw long)
    where
      entry-says : (p : Parse Entry) → refusal_in (stepped c.left p) ≡ refusal_of p
      entry-says (refuse r) = refl
      entry-says (parsed e next) = refl

      header-says : (p : Parse ℕ) → refusal_in (headed_step s c p)
          ≡ refusal_of (and_then p (λ header next. pick (eqb c.left 0) (parsed (entry [] []) 0) (entry_at (says_tagged header) s c.at)))
      header-says (refuse r) = refl
      header-says (parsed h next) =
          tests.split (eqb c.left 0) (λ none. rw none) (λ some. rw some (entry-says (entry_at (says_tagged h) s c.at)))

  step-exact : Bytes s → RefusesExactly (refusal_in (step_of s c)) (OfBody s (HeadedFault c.left c.at s))
  step-exact are = rw step-says (headed-exact c.left s c.at are)

-- ---- steps one after another

-- a step that was asked for by its number is refused as it is
asked-refusal : (c : Cursor) (step : Result (Option Step) Refusal) → refusal_in (asked_at c step) ≡ refusal_in step
asked-refusal c (Ok step) = refl
asked-refusal c (Err r) = refl

-- a call whose number is known
known-exactly : (refusal k : ℕ) (Fault : ℕ → Type 0) → refusal ≡ k → (k ≡ 0 → ⊥) → Fault k → ((n : ℕ) → Fault n → n ≡ k) → RefusesExactly refusal Fault
known-exactly refusal k Fault is some case only n = (
  λ (this, _). subst Fault (sym is ∙ this) case,
  λ fault. let same = only n fault in (is ∙ sym same, λ none. some (sym same ∙ none)),
)

-- one that isn't refused
accepts-exactly : (refusal : ℕ) (Fault : ℕ → Type 0) → refusal ≡ 0 → ((n : ℕ) → Fault n → ⊥) → RefusesExactly refusal Fault
accepts-exactly refusal Fault is none n = ((λ (this, some). absurd (some (sym this ∙ is))), λ fault. absurd (none n fault))

-- the same number, by cases that are the same
map-exactly : (refusal other : ℕ) (Fault Other : ℕ → Type 0) → refusal ≡ other → RefusesExactly other Other → ((n : ℕ) → Other n → Fault n)
    → ((n : ℕ) → Fault n → Other n) → RefusesExactly refusal Fault
map-exactly refusal other Fault Other is exactly to from n = (
  λ (this, some). to n ((exactly n).0 (sym is ∙ this, some)),
  λ fault. let (this, some) = (exactly n).1 (from n fault) in (is ∙ this, some),
)

-- entries behind a first one
ahead-parsed : (q : Parse (List Entry)) (e f : Entry) (fs : List Entry) (to : ℕ) → ahead e q ≡ parsed (f ∷ fs) to → q ≡ parsed fs to
ahead-parsed (refuse r) e f fs to h = never h
ahead-parsed (parsed rest last) e f fs to h = cc

module _ (s : List ℕ) (short : length s ≤ body_limit) (h : ℕ) (read : le_at 8 s 0 ≡ parsed h 8) where
  -- a step, where the header is read
  step_is : (left at : ℕ) → step_of s (cursor_at left at) ≡ pick (eqb left 0) (Ok None) (stepped left (entry_at (says_tagged h) s at))
  unfolding step_of
  step_is left at = rw (le-leb (length s) body_limit short, read)

  -- the step behind k others says this
  abbrev said : ℕ → Cursor → ℕ
  said k c = refusal_in (step_of s (cursor_after s k c))

  -- of the next entries one is refused, with this number, after k others at most
  record Hits (k left at n : ℕ) : Type 0 where
    es : List Entry
    to : ℕ
    r : Refusal
    passed : many (entry_at (says_tagged h) s) (length es) at ≡ parsed es to
    early : length es ≤ k
    counted : length es < left
    stops : entry_at (says_tagged h) s to ≡ refuse r
    is : number r ≡ n

  still : (k : ℕ) (c : Cursor) → onwards c (step_of s c) ≡ c → said k c ≡ refusal_in (step_of s c)
  still k c none = ap (λ (d : Cursor). refusal_in (step_of s d)) (after-still s c none k)

  -- the entry at a place is refused: so is every step from there on
  refused-hits : (k left at : ℕ) (r : Refusal) → entry_at (says_tagged h) s at ≡ refuse r
      → RefusesExactly (said k (cursor_at (suc left) at)) (Hits k (suc left) at)
  refused-hits k left at r e =
      let here : step_of s (cursor_at (suc left) at) ≡ Err r = step_is (suc left) at ∙ rw (ne_eqb (suc left) 0 (λ none. omega arith), e) in
      known-exactly (said k (cursor_at (suc left) at)) (number r) (Hits k (suc left) at)
      (still k (cursor_at (suc left) at) (ap (onwards (cursor_at (suc left) at)) here) ∙ ap refusal_in here)
      (no_zero r)
      (record { es = []; to = at; r = r; passed = many-none (entry_at (says_tagged h) s) at; early = omega arith; counted = omega arith; stops = e; is = refl })
      (λ n hit. go n hit.es hit.to hit.passed hit.r hit.stops hit.is)
    where
      go : (n : ℕ) (es : List Entry) (to : ℕ) → many (entry_at (says_tagged h) s) (length es) at ≡ parsed es to → (x : Refusal)
          → entry_at (says_tagged h) s to ≡ refuse x → number x ≡ n → n ≡ number r
      go n [] to passed x stops is =
          let place : parsed [] at ≡ parsed [] to = sym (many-none (entry_at (says_tagged h) s) at) ∙ passed in
          let same : at ≡ to = cc in
          let there : entry_at (says_tagged h) s at ≡ refuse x = rw same stops in
          let this : x ≡ r = cc in
          sym is ∙ ap number this
      go n (f ∷ fs) to passed x stops is =
          let cut = many-stops (entry_at (says_tagged h) s) 0 (suc (length fs)) at (omega arith) (many-none (entry_at (says_tagged h) s) at) e in
          never (sym cut ∙ passed)

  -- it is handed out
  handed : (left at : ℕ) (e : Entry) (next : ℕ) → entry_at (says_tagged h) s at ≡ parsed e next
      → step_of s (cursor_at (suc left) at) ≡ Ok (Some (entry_step left e next))
  handed left at e next p = step_is (suc left) at
      ∙ rw (ne_eqb (suc left) 0 (λ none. omega arith), p) (ap (λ (n : ℕ). Ok (Some (entry_step n e next))) (let one : suc left - 1 ≡ left = omega arith in one))

  first-hands : (left at : ℕ) (e : Entry) (next : ℕ) → entry_at (says_tagged h) s at ≡ parsed e next
      → RefusesExactly (said 0 (cursor_at (suc left) at)) (Hits 0 (suc left) at)
  first-hands left at e next p =
      accepts-exactly (said 0 (cursor_at (suc left) at)) (Hits 0 (suc left) at)
      (ap (λ (d : Cursor). refusal_in (step_of s d)) (after_none s (cursor_at (suc left) at)) ∙ ap refusal_in (handed left at e next p))
      (λ n hit. go hit.es hit.to hit.passed hit.early hit.r hit.stops)
    where
      go : (es : List Entry) (to : ℕ) → many (entry_at (says_tagged h) s) (length es) at ≡ parsed es to → length es ≤ 0 → (x : Refusal)
          → entry_at (says_tagged h) s to ≡ refuse x → ⊥
      go [] to passed early x stops =
          let place : parsed [] at ≡ parsed [] to = sym (many-none (entry_at (says_tagged h) s) at) ∙ passed in
          let same : at ≡ to = cc in
          let there : entry_at (says_tagged h) s at ≡ refuse x = rw same stops in
          never (sym there ∙ p)
      go (f ∷ fs) to passed early x stops = absurd (omega arith)

  next-hands : (k left at : ℕ) (e : Entry) (next : ℕ) → entry_at (says_tagged h) s at ≡ parsed e next
      → RefusesExactly (said k (cursor_at left next)) (Hits k left next) → RefusesExactly (said (suc k) (cursor_at (suc left) at)) (Hits (suc k) (suc left) at)
  next-hands k left at e next p rest =
      map-exactly (said (suc k) (cursor_at (suc left) at)) (said k (cursor_at left next)) (Hits (suc k) (suc left) at) (Hits k left next)
      (ap (λ (d : Cursor). refusal_in (step_of s d)) (after_next s k (cursor_at (suc left) at) ∙ rw (handed left at e next p)))
      rest
      (λ n hit. record {
        es = e ∷ hit.es;
        to = hit.to;
        r = hit.r;
        passed = many-next (entry_at (says_tagged h) s) (length hit.es) at e next p ∙ ap (ahead e) hit.passed;
        early = omega (arith, hit.early);
        counted = omega (arith, hit.counted);
        stops = hit.stops;
        is = hit.is;
      })
      (λ n hit. go n hit.es hit.to hit.passed hit.r hit.early hit.counted hit.stops hit.is)
    where
      go : (n : ℕ) (es : List Entry) (to : ℕ) → many (entry_at (says_tagged h) s) (length es) at ≡ parsed es to → (x : Refusal) → length es ≤ suc k
          → length es < suc left → entry_at (says_tagged h) s to ≡ refuse x → number x ≡ n → Hits k left next n
      go n [] to passed x early counted stops is =
          let place : parsed [] at ≡ parsed [] to = sym (many-none (entry_at (says_tagged h) s) at) ∙ passed in
          let same : at ≡ to = cc in
          let there : entry_at (says_tagged h) s at ≡ refuse x = rw same stops in
          never (sym there ∙ p)
      go n (f ∷ fs) to passed x early counted stops is =
          let others = sym (many-next (entry_at (says_tagged h) s) (length fs) at e next p) ∙ passed in
          let behind : many (entry_at (says_tagged h) s) (length fs) next ≡ parsed fs to =
          ahead-parsed (many (entry_at (says_tagged h) s) (length fs) next) e f fs to others in
          record { es = fs; to = to; r = x; passed = behind; early = omega arith; counted = omega arith; stops = stops; is = is }

  at_first : (left at : ℕ) (p : Parse Entry) → entry_at (says_tagged h) s at ≡ p → RefusesExactly (said 0 (cursor_at (suc left) at)) (Hits 0 (suc left) at)
  at_first left at (refuse r) e = refused-hits 0 left at r e
  at_first left at (parsed a next) e = first-hands left at a next e

  further : (k left at : ℕ) → ((next : ℕ) → RefusesExactly (said k (cursor_at left next)) (Hits k left next)) → (p : Parse Entry)
      → entry_at (says_tagged h) s at ≡ p → RefusesExactly (said (suc k) (cursor_at (suc left) at)) (Hits (suc k) (suc left) at)
  further k left at rest (refuse r) e = refused-hits (suc k) left at r e
  further k left at rest (parsed a next) e = next-hands k left at a next e (rest next)

  hits-exact : (k left at : ℕ) → RefusesExactly (said k (cursor_at left at)) (Hits k left at)
  hits-exact k zero at =
      accepts-exactly (said k (cursor_at 0 at)) (Hits k 0 at)
      (still k (cursor_at 0 at) (ap (onwards (cursor_at 0 at)) (step_is 0 at)) ∙ ap refusal_in (step_is 0 at))
      (λ n hit. omega (arith, hit.counted))
  hits-exact zero (suc left) at = at_first left at (entry_at (says_tagged h) s at) refl
  hits-exact (suc k) (suc left) at = further k left at (hits-exact k left) (entry_at (says_tagged h) s at) refl

  -- ---- by the layout

  module _ (are : Bytes s) (index : ℕ) where
    hit-fault : (n : ℕ) → Hits index (says_count h) 8 n → OfBody s (NumberFault index s) n
    hit-fault n hit =
        let header = header-found s are h read in
        let (size, front) = entries-found s are (says_tagged h) (length hit.es) 8 hit.es hit.to header.inside hit.passed in
        let whole : s ≡ header.bytes ++ (front.bytes ++ drop hit.to s) = header.is ∙ ap (λ (l : List ℕ). header.bytes ++ l) front.is in
        let fault = entry-given s (says_tagged h) hit.to are hit.r hit.stops in
        OfBody.in_part short (NumberFault.in_entries whole header.holds front.holds hit.early hit.counted (rw hit.is at fault))

    fault-hit : (n : ℕ) → OfBody s (NumberFault index s) n → Hits index (says_count h) 8 n
    fault-hit n (OfBody.too_long long) = absurd (omega arith)
    fault-hit n (OfBody.in_part _ (NumberFault.cut_header few)) = never (sym (le-gone 8 s 0 few) ∙ read)
    fault-hit n (OfBody.in_part _
        (NumberFault.in_entries {tagged = tagged} {count = count} {es = es} {header = header} {front = front} {rest = rest} whole says entries early below
        bad)) =
        let (g, told, is, counted, second) =
        header-reads s header (front ++ rest) says (front_bytes header (front ++ rest) (subst Bytes whole are)) (record { is = whole; inside = omega arith }) in
        let same : g ≡ h = cc in
        let tags : tagged ≡ says_tagged h = sym is ∙ ap says_tagged same in
        let number_of : count ≡ says_count h = sym counted ∙ ap says_count same in
        let passed = entries-read s tagged es front entries 8 rest second in
        let (r, e, this) = entry-forced s tagged (8 + length front) rest n bad (from_next s 8 front rest second) in
        record {
          es = es;
          to = 8 + length front;
          r = r;
          passed = subst (λ (b : Bool). many (entry_at b s) (length es) 8 ≡ parsed es (8 + length front)) tags passed;
          early = early;
          counted = omega (arith, number_of, below);
          stops = subst (λ (b : Bool). entry_at b s (8 + length front) ≡ refuse r) tags e;
          is = this;
        }

    start_is : start_of s ≡ Ok (cursor_at (says_count h) 8)
    unfolding start_of
    start_is = rw (le-leb (length s) body_limit short, read)

    read-exact : RefusesExactly (refusal_in (step_after s index)) (OfBody s (NumberFault index s))
    read-exact =
        map-exactly (refusal_in (step_after s index)) (said index (cursor_at (says_count h) 8)) (OfBody s (NumberFault index s)) (Hits index (says_count h) 8)
        (ap refusal_in (step_after_lem s index (cursor_at (says_count h) 8) start_is)
        ∙ asked-refusal (cursor_after s index (cursor_at (says_count h) 8)) (step_of s (cursor_after s index (cursor_at (says_count h) 8))))
        (hits-exact index (says_count h) 8) hit-fault fault-hit

module _ (s : List ℕ) (index : ℕ) where
  -- where the header isn't read, every step says so
  long-exact : body_limit < length s → RefusesExactly (refusal_in (step_after s index)) (OfBody s (NumberFault index s))
  unfolding step_after start_of
  long-exact long =
      known-exactly (refusal_in (step_after s index)) 11 (OfBody s (NumberFault index s)) (rw (lt-leb (length s) body_limit long)) (λ none. omega arith)
      (OfBody.too_long long) only
    where
      only : (n : ℕ) → OfBody s (NumberFault index s) n → n ≡ 11
      only n (OfBody.too_long _) = refl
      only n (OfBody.in_part short _) = absurd (omega arith)

  cut-exact : Bytes s → length s ≤ body_limit → length s < 8 → RefusesExactly (refusal_in (step_after s index)) (OfBody s (NumberFault index s))
  unfolding step_after start_of
  cut-exact are short few =
      known-exactly (refusal_in (step_after s index)) 1 (OfBody s (NumberFault index s)) (rw (le-leb (length s) body_limit short, le-gone 8 s 0 few))
      (λ none. omega arith) (OfBody.in_part short (NumberFault.cut_header few)) only
    where
      only : (n : ℕ) → OfBody s (NumberFault index s) n → n ≡ 1
      only n (OfBody.too_long long) = absurd (omega arith)
      only n (OfBody.in_part _ (NumberFault.cut_header _)) = refl
      only n (OfBody.in_part _ (NumberFault.in_entries {header = header} {front = front} {rest = rest} whole says entries early below bad)) =
          let (_, told, _, _, _) =
          header-reads s header (front ++ rest) says (front_bytes header (front ++ rest) (subst Bytes whole are))
          (record { is = whole; inside = omega arith }) in
          never (sym (le-gone 8 s 0 few) ∙ told)

  number-exact : Bytes s → RefusesExactly (refusal_in (step_after s index)) (OfBody s (NumberFault index s))
  number-exact are = split (length s) body_limit
      (λ short. split 8 (length s) (λ there. read-exact s short (le_of (part s 0 8)) (le-here 8 s 0 there) are index) (λ few. cut-exact are short few))
      long-exact

pub reader-exact : ReaderExact
reader-exact = record { start = start-exact; try_new = new-exact; step_at = step-exact; entry_number = number-exact }

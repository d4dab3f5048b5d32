-- Laws of the sweep over the marks of two lists of intervals: what it gives is gapped, and holds the numbers of which the operation says so.
use Prim.Native.Nat.{Ordering}
use Prim.Native.Nat.{ℕ, compare, ◌<◌, ◌≤◌}
use mathlib.Core.Path.{◌≡◌, refl, sym, ap, ◌∙◌}
use mathlib.Core.Bool.{Bool, true, false, not-not}
use mathlib.Core.List.{List, [], ◌∷◌}
use native.Mathlib.Omega.{arith}
use lib.Dec.{leb}
use borrow.Author.Tests.{lt-leb}
use Rattle.misc.specs.Pick.{pick}
use Rattle.packets.specs.Gno.{gno_top, Interval, interval}
use Rattle.packets.proofs.Tests.{split, clash, tests}
use Rattle.packets.proofs.Keys.{compare-cases}
use Rattle.gtid_sets.specs.Interval.{covers, Gapped}
use Rattle.gtid_sets.specs.Combine.{marks, spans, is_open, mark, keeps, sweep, swept, Rising}
use Rattle.gtid_sets.proofs.IntervalLaws.{inside, outside, gapped-misses}

-- whether n is in, by the marks
abbrev turned : List ℕ → ℕ → Bool
turned [] n = false
turned (m ∷ ms) n = pick (leb m n) (turned ms n) (is_open (m ∷ ms))

-- ---- marks and intervals

pub marks-rise : (low : ℕ) (is : List Interval) → Gapped low is → Rising low (marks is)
marks-rise low [] g = tt
marks-rise low (interval s e ∷ is) g = (g.0, omega arith, (g.1, g.2, marks-rise e is g.3))

spans-gapped : (low : ℕ) (ms : List ℕ) → Rising low ms → Gapped low (spans ms)
spans-gapped low [] r = tt
spans-gapped low (m ∷ []) r = tt
spans-gapped low (m ∷ n ∷ ms) r = (r.0, r.2.0, r.2.1, spans-gapped n ms r.2.2)

-- intervals have an even number of marks
marks-shut : (is : List Interval) → is_open (marks is) ≡ false
marks-shut [] = refl
marks-shut (interval s e ∷ is) = not-not (is_open (marks is)) ∙ marks-shut is

pub marks-spans : (ms : List ℕ) → is_open ms ≡ false → marks (spans ms) ≡ ms
marks-spans [] h = refl
marks-spans (m ∷ []) h = clash refl h
marks-spans (m ∷ n ∷ ms) h = ap (λ l. m ∷ n ∷ l) (marks-spans ms (sym (not-not (is_open ms)) ∙ h))

turned-before : (low : ℕ) (ms : List ℕ) (n : ℕ) → Rising low ms → n ≤ low → turned ms n ≡ is_open ms
turned-before low [] n r l = refl
turned-before low (m ∷ ms) n r l = rw (lt-leb m n (omega arith))

marks-cover : (low : ℕ) (is : List Interval) (n : ℕ) → Gapped low is → covers is n ≡ turned (marks is) n
marks-cover low [] n g = refl
marks-cover low (interval s e ∷ is) n g = split (leb s n)
    (λ h. split (leb e n)
    (λ k. rw (outside s e n (λ l. omega tests), h, k) (marks-cover e is n g.3))
    (λ k. rw (inside s e n (omega tests) (omega tests), h, k, marks-shut is)))
    (λ h. rw (outside s e n (λ l. omega tests), h, marks-shut is) (gapped-misses e is n g.3 (omega tests)))

-- ---- one mark

pub lower : (low m : ℕ) (ms : List ℕ) → low < m → Rising m ms → Rising low ms
lower low m [] l r = tt
lower low m (n ∷ ms) l r = (omega arith, r.1, r.2)

mark-rises : (z z' : Bool) (low m : ℕ) (ms : List ℕ) → low < m → m ≤ gno_top → Rising m ms → Rising low (mark z z' m ms)
mark-rises true true low m ms l t r = lower low m ms l r
mark-rises true false low m ms l t r = (l, t, r)
mark-rises false true low m ms l t r = (l, t, r)
mark-rises false false low m ms l t r = lower low m ms l r

mark-open : (z z' : Bool) (m : ℕ) (ms : List ℕ) → is_open ms ≡ z' → is_open (mark z z' m ms) ≡ z
mark-open true true m ms o = o
mark-open true false m ms o = rw o
mark-open false true m ms o = rw o
mark-open false false m ms o = o

mark-turns : (z z' : Bool) (m : ℕ) (ms : List ℕ) (n : ℕ) → Rising m ms → is_open ms ≡ z' → turned (mark z z' m ms) n ≡ pick (leb m n) (turned ms n) z
mark-turns true true m ms n r o = split (leb m n) (λ h. rw h) (λ h. rw h (turned-before m ms n r (omega tests) ∙ o))
mark-turns true false m ms n r o = rw o
mark-turns false true m ms n r o = rw o
mark-turns false false m ms n r o = split (leb m n) (λ h. rw h) (λ h. rw h (turned-before m ms n r (omega tests) ∙ o))

-- ---- the sweep

module _ (op : Bool → Bool → Bool) (m n : ℕ) (a b : List ℕ) where
  pub sweep-lt : compare m n ≡ Ordering.lt → sweep op (m ∷ a) (n ∷ b) ≡ mark (keeps op (m ∷ a) (n ∷ b)) (keeps op a (n ∷ b)) m (sweep op a (n ∷ b))
  sweep-lt e = rw (e, sweep)

  pub sweep-eq : compare m n ≡ Ordering.eq → sweep op (m ∷ a) (n ∷ b) ≡ mark (keeps op (m ∷ a) (n ∷ b)) (keeps op a b) m (sweep op a b)
  sweep-eq e = rw (e, sweep)

  pub sweep-gt : compare m n ≡ Ordering.gt → sweep op (m ∷ a) (n ∷ b) ≡ mark (keeps op (m ∷ a) (n ∷ b)) (keeps op (m ∷ a) b) n (sweep op (m ∷ a) b)
  sweep-gt e = rw (e, sweep)

module _ (op : Bool → Bool → Bool) where
  -- it goes on behind m, where z holds before it
  abbrev from : Bool → ℕ → List ℕ → List ℕ → List ℕ
  from z m a b = mark z (keeps op a b) m (sweep op a b)

  from-rises : (z : Bool) (low m : ℕ) (a b : List ℕ) → low < m → m ≤ gno_top → Rising m (sweep op a b) → Rising low (from z m a b)
  from-rises z low m a b = mark-rises z (keeps op a b) low m (sweep op a b)

  sweep-rises : (low : ℕ) (a b : List ℕ) → Rising low a → Rising low b → Rising low (sweep op a b)
  sweep-rises low [] [] r q = tt
  sweep-rises low (m ∷ a) [] r q = from-rises (keeps op (m ∷ a) []) low m a [] r.0 r.1 (sweep-rises m a [] r.2 tt)
  sweep-rises low [] (n ∷ b) r q = from-rises (keeps op [] (n ∷ b)) low n [] b q.0 q.1 (sweep-rises n [] b tt q.2)
  sweep-rises low (m ∷ a) (n ∷ b) r q = compare-cases m n
      (λ h e. rw (sweep-lt op m n a b e) (from-rises (keeps op (m ∷ a) (n ∷ b)) low m a (n ∷ b) r.0 r.1
      (sweep-rises m a (n ∷ b) r.2 (h, q.1, q.2))))
      (λ h e. rw (sweep-eq op m n a b e) (from-rises (keeps op (m ∷ a) (n ∷ b)) low m a b r.0 r.1
      (sweep-rises m a b r.2 (rw h q.2))))
      (λ h e. rw (sweep-gt op m n a b e) (from-rises (keeps op (m ∷ a) (n ∷ b)) low n (m ∷ a) b q.0 q.1
      (sweep-rises n (m ∷ a) b (h, r.1, r.2) q.2)))

  module _ (none : op false false ≡ false) where
    pub sweep-open : (a b : List ℕ) → is_open (sweep op a b) ≡ keeps op a b
    sweep-open [] [] = sym none
    sweep-open (m ∷ a) [] = mark-open (keeps op (m ∷ a) []) (keeps op a []) m (sweep op a []) (sweep-open a [])
    sweep-open [] (n ∷ b) = mark-open (keeps op [] (n ∷ b)) (keeps op [] b) n (sweep op [] b) (sweep-open [] b)
    sweep-open (m ∷ a) (n ∷ b) = compare-cases m n
        (λ h e. rw (sweep-lt op m n a b e)
        (mark-open (keeps op (m ∷ a) (n ∷ b)) (keeps op a (n ∷ b)) m (sweep op a (n ∷ b)) (sweep-open a (n ∷ b))))
        (λ h e. rw (sweep-eq op m n a b e) (mark-open (keeps op (m ∷ a) (n ∷ b)) (keeps op a b) m (sweep op a b) (sweep-open a b)))
        (λ h e. rw (sweep-gt op m n a b e)
        (mark-open (keeps op (m ∷ a) (n ∷ b)) (keeps op (m ∷ a) b) n (sweep op (m ∷ a) b) (sweep-open (m ∷ a) b)))

    from-turns : (z : Bool) (m : ℕ) (a b : List ℕ) (n : ℕ) → Rising m a → Rising m b → turned (sweep op a b) n ≡ op (turned a n) (turned b n)
        → turned (from z m a b) n ≡ pick (leb m n) (op (turned a n) (turned b n)) z
    from-turns z m a b n r q e =
        mark-turns z (keeps op a b) m (sweep op a b) n (sweep-rises m a b r q) (sweep-open a b) ∙ rw e

    -- the one law of the sweep
    sweep-turns : (low : ℕ) (a b : List ℕ) (n : ℕ) → Rising low a → Rising low b → turned (sweep op a b) n ≡ op (turned a n) (turned b n)
    sweep-turns low [] [] n r q = sym none
    sweep-turns low (m ∷ a) [] n r q =
        from-turns (keeps op (m ∷ a) []) m a [] n r.2 tt (sweep-turns m a [] n r.2 tt) ∙ split (leb m n) (λ h. rw h) (λ h. rw h)
    sweep-turns low [] (m ∷ b) n r q =
        from-turns (keeps op [] (m ∷ b)) m [] b n tt q.2 (sweep-turns m [] b n tt q.2) ∙ split (leb m n) (λ h. rw h) (λ h. rw h)
    sweep-turns low (m ∷ a) (l ∷ b) n r q = compare-cases m l
        (λ h e. rw (sweep-lt op m l a b e)
        (from-turns (keeps op (m ∷ a) (l ∷ b)) m a (l ∷ b) n r.2 (h, q.1, q.2) (sweep-turns m a (l ∷ b) n r.2 (h, q.1, q.2))
        ∙ split (leb m n) (λ k. rw k) (λ k. rw (k, lt-leb l n (omega tests)))))
        (λ h e. rw (sweep-eq op m l a b e)
        (from-turns (keeps op (m ∷ a) (l ∷ b)) m a b n r.2 (rw h q.2) (sweep-turns m a b n r.2 (rw h q.2))
        ∙ rw (← h) (split (leb m n) (λ k. rw k) (λ k. rw k))))
        (λ h e. rw (sweep-gt op m l a b e)
        (from-turns (keeps op (m ∷ a) (l ∷ b)) l (m ∷ a) b n (h, r.1, r.2) q.2 (sweep-turns l (m ∷ a) b n (h, r.1, r.2) q.2)
        ∙ split (leb l n) (λ k. rw k) (λ k. rw (k, lt-leb m n (omega tests)))))

-- ---- intervals

module _ (op : Bool → Bool → Bool) (none : op false false ≡ false) (is js : List Interval) (g : Gapped 0 is) (h : Gapped 0 js) where
  -- an even number of marks remains
  pub sweep-shut : is_open (sweep op (marks is) (marks js)) ≡ false
  sweep-shut = sweep-open op none (marks is) (marks js) ∙ rw (marks-shut is, marks-shut js) none

  pub swept-gapped : Gapped 0 (swept op is js)
  swept-gapped = spans-gapped 0 (sweep op (marks is) (marks js)) (sweep-rises op 0 (marks is) (marks js) (marks-rise 0 is g) (marks-rise 0 js h))

  pub swept-covers : (n : ℕ) → covers (swept op is js) n ≡ op (covers is n) (covers js n)
  swept-covers n = marks-cover 0 (swept op is js) n swept-gapped ∙ rw (marks-spans (sweep op (marks is) (marks js)) sweep-shut)
      (sweep-turns op none 0 (marks is) (marks js) n (marks-rise 0 is g) (marks-rise 0 js h) ∙ rw (marks-cover 0 is n g, marks-cover 0 js n h))

-- How much room a set takes up while intervals are joined to it.
use Prim.Native.Nat.{ℕ, suc, ◌+◌, ◌*◌, ◌≤◌, min, max}
use mathlib.Core.Path.{◌≡◌, refl}
use mathlib.Core.Bool.{Bool, true, false}
use mathlib.Core.List.{List, [], ◌∷◌}
use native.Mathlib.Omega.{arith}
use lib.ListN.{length, length-append}
use Rattle.misc.specs.Pick.{pick}
use Rattle.packets.specs.Gno.{Interval, interval}
use Rattle.packets.specs.Key.{Key}
use Rattle.packets.proofs.Tests.{split}
use Rattle.packets.proofs.Keys.{key-cases, same_self, before-not-same, after-not-same}
use Rattle.previous_gtids_event.specs.Entry.{Entry, entry, tag_of}
use Rattle.previous_gtids_event.specs.Previous.{GoodKey}
use Rattle.previous_gtids_event.specs.Rewrite.{entry_bytes, entries_bytes, any_tag, body_bytes}
use Rattle.packets.proofs.TagLaws.{none-or-tag-short}
use Rattle.previous_gtids_event.proofs.RoundTrip.{plain-least}
use Rattle.previous_gtids_event.proofs.Writing.{length-header, entry_length}
use Rattle.gtid_sets.specs.Interval.{insert}
use Rattle.gtid_sets.specs.Set.{Above, SetForm, join}
use Rattle.gtid_sets.specs.TakeIn.{Proper, join_all}
use Rattle.gtid_sets.proofs.IntervalLaws.{insert-cases, insert-before, insert-after, insert-joined}
use Rattle.gtid_sets.proofs.SetLaws.{join-before, join-into, join-after, above_down, form-join}
use Rattle.set_check.proofs.HeadLaws.{tag-bytes}
use Rattle.set_join.specs.TakeIn.{widest, named, enough}

-- ---- the bytes of a set

-- tags only add bytes
plainer : (w : Bool) (s : List Entry) → length (entries_bytes w s) ≤ length (entries_bytes true s)
plainer true s = omega arith
plainer false s = plain-least s

pub body-widest : (s : List Entry) → length (body_bytes s) ≤ widest s
unfolding body_bytes widest
body-widest s = rw (length-append, length-header) (omega (arith, plainer (any_tag s) s))

pub widest-empty : widest [] ≡ 8
unfolding widest entries_bytes
widest-empty = refl

entry-wide : (k : Key) (is : List Interval) → GoodKey k → length (entry_bytes true (entry k is)) ≡ 25 + length (tag_of k) + 16 * length is
entry-wide k is g =
    let short = none-or-tag-short (tag_of k) g.rule in
    rw (entry_length true k is g.uuid, tag-bytes (tag_of k) (omega arith)) (omega arith)

-- ---- one interval more

insert-longer : (a b : ℕ) (is : List Interval) → length (insert a b is) ≤ suc (length is)
insert-longer a b [] = omega arith
insert-longer a b (interval s e ∷ is) = insert-cases a b s e
    (λ h. rw (insert-before a b s e is h) (omega arith))
    (λ h k. rw (insert-after a b s e is h k) (omega (arith, insert-longer a b is)))
    (λ h k. rw (insert-joined a b s e is h k) (omega (arith, insert-longer (min a s) (max b e) is)))

-- a key before every key of the set has no entry
unnamed : (k : Key) (s : List Entry) → Above k s → SetForm s → named s k ≡ false
unnamed k [] a f = refl
unnamed k (entry j is ∷ s) a f = rw (before-not-same k j a) (unnamed k s (above_down k j s a f.2) f.3)

-- and one that was joined has one
named-join : (k : Key) (a b : ℕ) (s : List Entry) → named (join k a b s) k ≡ true
named-join k a b [] = rw (same_self k)
named-join k a b (entry j is ∷ s) = key-cases k j
    (λ p. rw (join-before k j a b is s p, same_self k))
    (λ p. rw (← p, join-into k a b is s, same_self k))
    (λ p. rw (join-after k j a b is s p, after-not-same j k p) (named-join k a b s))

-- an entry that is there grows by an interval at most; a new one has its head too
grows : (k : Key) (a b : ℕ) (s : List Entry) → SetForm s → GoodKey k
    → length (entries_bytes true (join k a b s)) ≤ length (entries_bytes true s) + (pick (named s k) 0 (25 + length (tag_of k)) + 16)
unfolding entries_bytes
grows k a b [] f g = simp (length-append, entry-wide k (interval a b ∷ []) g) (omega arith)
grows k a b (entry j is ∷ s) f g = key-cases k j
    (λ p. rw (join-before k j a b is s p, before-not-same k j p, unnamed k s (above_down k j s p f.2) f.3)
    (simp (length-append, entry-wide k (interval a b ∷ []) g) (omega arith)))
    (λ p. rw (← p, join-into k a b is s, same_self k)
    (simp (length-append, entry-wide k (insert a b is) g, entry-wide k is g) (omega (arith, insert-longer a b is))))
    (λ p. rw (join-after k j a b is s p, after-not-same j k p)
    (simp length-append (omega (arith, grows k a b s f.3 g))))

-- ---- enough room

module _ (k : Key) (a b : ℕ) (s : List Entry) (f : SetForm s) (g : GoodKey k) where
  -- the set with one interval more
  pub enough-now : length (body_bytes (join k a b s)) ≤ enough k s 1
  unfolding enough widest
  enough-now = omega (arith, body-widest (join k a b s), grows k a b s f g)

  -- what is enough for one more is enough after it
  pub enough-next : (n : ℕ) → enough k (join k a b s) n ≤ enough k s (suc n)
  unfolding enough widest
  enough-next n = rw (named-join k a b s) (omega (arith, grows k a b s f g))

pub enough-all : (k : Key) (is : List Interval) (s : List Entry) → SetForm s → GoodKey k → Proper is → widest (join_all k is s) ≤ enough k s (length is)
unfolding enough
enough-all k [] s f g p = omega arith
enough-all k (interval a b ∷ is) s f g p =
    omega (arith, enough-all k is (join k a b s) (form-join k a b s p.0 p.1 p.2 f) g p.3, enough-next k a b s f g (length is))

pub enough-most : (k : Key) (s : List Entry) (n : ℕ) → enough k s n ≤ widest s + (25 + length (tag_of k) + 16 * n)
unfolding enough
enough-most k s n = split (named s k) (λ h. rw h (omega arith)) (λ h. rw h (omega arith))

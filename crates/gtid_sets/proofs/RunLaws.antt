-- What an offer does to a set: the members after it, that set form and limits last, and that a refusal changes nothing.
use Prim.Native.Nat.{ℕ}
use mathlib.Core.Path.{◌≡◌, refl, sym}
use mathlib.Core.Bool.{true, false, ◌&&◌, ◌||◌, or-false, or_comm}
use mathlib.Core.List.{List}
use lib.Dec.{eqb}
use Rattle.misc.specs.declared.refusal.Refusal.{Refusal}
use Rattle.misc.specs.Refusal.{bad_gno}
use Rattle.packets.specs.Gno.{is_gno}
use Rattle.packets.specs.Key.{Key, same}
use Rattle.packets.proofs.Tests.{split}
use Rattle.previous_gtids_event.specs.Entry.{Entry}
use Rattle.gtid_sets.specs.Set.{has, SetForm, add}
use Rattle.gtid_sets.specs.Limits.{fine, breaks, limits, is_full}
use Rattle.gtid_sets.specs.Run.{Event, anonymous, broken, names, already, taken, refused, answer, is_taken, after, is_member, is_of}
use Rattle.gtid_sets.proofs.SetLaws.{has-add, form-add, named_again}
use Rattle.gtid_sets.proofs.LimitLaws.{limits-cases}

-- every answer to an event that names an id, with what it rests on
pub answer-cases : {P : Type 0} (s : List Entry) (k : Key) (n : ℕ)
    → (is_gno n ≡ false → answer s (names k n) ≡ refused bad_gno → P)
    → (is_gno n ≡ true → has s k n ≡ true → answer s (names k n) ≡ already → P)
    → (is_gno n ≡ true → has s k n ≡ false → limits (add k n s) ≡ fine → answer s (names k n) ≡ taken → P)
    → ((r : Refusal) → is_full r ≡ true → is_gno n ≡ true → has s k n ≡ false → limits (add k n s) ≡ breaks r
    → answer s (names k n) ≡ refused r → P)
    → P
answer-cases s k n wrong old new over = split (is_gno n)
    (λ g. split (has s k n)
    (λ h. old g h (rw (g, h)))
    (λ h. limits-cases (add k n s)
    (λ l. new g h l (rw (g, h, l)))
    (λ r l f. over r f g h l (rw (g, h, l)))))
    (λ g. wrong g (rw g))

-- only "taken" changes the set
pub after-unless-taken : (s : List Entry) (e : Event) → is_taken (answer s e) ≡ false → after s e ≡ s
after-unless-taken s anonymous h = refl
after-unless-taken s (broken r) h = refl
after-unless-taken s (names k n) h = rw h

-- its id is the only one that the set gains
pub has-after : (s : List Entry) (e : Event) (k : Key) (n : ℕ) → has (after s e) k n ≡ has s k n || (is_member (answer s e) && is_of e k n)
has-after s anonymous k n = sym (or-false (has s k n))
has-after s (broken r) k n = sym (or-false (has s k n))
has-after s (names j m) k n = answer-cases s j m
    (λ g e. rw e (sym (or-false (has s k n))))
    (λ g h e. rw e (sym (named_again s j m k n h)))
    (λ g h l e. rw (e, has-add j m s k n) (or_comm (same k j && eqb n m) (has s k n)))
    (λ r f g h l e. rw e (sym (or-false (has s k n))))

pub form-after : (s : List Entry) (e : Event) → SetForm s → SetForm (after s e)
form-after s anonymous f = f
form-after s (broken r) f = f
form-after s (names k n) f = answer-cases s k n
    (λ g e. rw e f)
    (λ g h e. rw e f)
    (λ g h l e. rw e (form-add k n s g f))
    (λ r v g h l e. rw e f)

pub limits-after : (s : List Entry) (e : Event) → limits s ≡ fine → limits (after s e) ≡ fine
limits-after s anonymous f = f
limits-after s (broken r) f = f
limits-after s (names k n) f = answer-cases s k n (λ g e. rw e f) (λ g h e. rw e f) (λ g h l e. rw e l) (λ r v g h l e. rw e f)

-- What the loop that counts entries gathers: how many there are so far.
use mathlib.Core.Path.{◌≡◌, refl}
use mathlib.Core.List.{List, []}
use Prim.Native.Nat.{ℕ, suc, ◌+◌}
use native.Mathlib.Nat.{zero-add, add-zero}
use native.Mathlib.Omega.{arith}
use lib.ListN.{length}
use Rattle.std.specs.Prelude.{Result, Ok}
use Rattle.misc.specs.declared.refusal.Refusal.{Refusal}
use Rattle.misc.specs.Parse.{Parse, refuse, parsed, answered}
use Rattle.misc.proofs.Walk.{ahead}
use Rattle.previous_gtids_event.specs.Entry.{Entry}
use Rattle.previous_gtids_event.specs.Answers.{previous_read}
use Rattle.previous_gtids_event.specs.declared.PreviousRead.{PreviousRead}

-- the answer where n entries are counted and the rest is read
abbrev pub read_after : ℕ → Parse (List Entry) → Result PreviousRead Refusal
read_after n p = answered (λ es next. record { used = next; entries = n + length es }) p

pub read_none : (p : Parse (List Entry)) → previous_read p ≡ read_after 0 p
read_none (refuse r) = refl
read_none (parsed es next) = rw zero-add

pub read_next : (n : ℕ) (e : Entry) (p : Parse (List Entry)) → read_after n (ahead e p) ≡ read_after (n + 1) p
read_next n e (refuse r) = refl
read_next n e (parsed es next) = let a : n + suc (length es) ≡ n + 1 + length es = omega arith in rw a

pub read-end : (n at : ℕ) {count : ℕ} → n ≡ count → read_after n (parsed [] at) ≡ Ok (record { used = at; entries = count })
read-end n at e = rw (add-zero, e)

-- What the calls over a body share: the longest body, and the part of it that is left unread.
use Rattle.std.specs.Prelude.{ℕ, ◌+◌, List, [], length, drop, leb}
use Rattle.misc.specs.Refusal.{too_long}
use Rattle.misc.specs.Parse.{Parse, refuse, parsed, provided}

-- a body has so many bytes at most
unfoldable pub body_limit : ℕ
body_limit = 65536

-- that is judged before anything else
abbrev pub of_body : {A : Type 0} → List ℕ → Parse A → Parse A
of_body s p = provided (leb (length s) body_limit) too_long p

-- how many bytes were used; none on a refusal
abbrev pub used_of : {A : Type 0} → Parse A → ℕ
used_of (refuse r) = 0
used_of (parsed a next) = next

-- what is left of the body behind them; nothing on a refusal
abbrev pub unread_of : {A : Type 0} → List ℕ → Parse A → List ℕ
unread_of s (refuse r) = []
unread_of s (parsed a next) = drop next s

-- so many bytes further on in the same memory
abbrev pub onward : ℕ × ℕ → ℕ → ℕ × ℕ
onward p n = (p.0, n + p.1)

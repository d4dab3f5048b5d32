-- Where in a file the reader is, and how a byte moves it on.
use Rattle.std.specs.Prelude.{ℕ, zero, suc, ◌+◌, ◌-◌, List, [], ◌∷◌, ◌++◌, length, take, get_or, leb, ltb, eqb}
use Rattle.misc.specs.Pick.{pick}
use Rattle.misc.specs.Refusal.{too_long, bad_file}
use Rattle.misc.specs.Body.{body_limit}
use Rattle.binlog.specs.Format.{the_opening, type_in, size_in, is_read}
use Rattle.binlog.specs.Stop.{Stop, stop_for}

pub data Place : Type 0 where
  -- so many of the opening's bytes have come
  opening : ℕ → Place
  -- these bytes of a header have come; none: between two events
  heading : List ℕ → Place
  -- in an event of a type that is read: so many bytes are still to come, and these came behind the header
  inside : ℕ → ℕ → List ℕ → Place
  -- in an event that is skipped: so many bytes are still to come
  passing : ℕ → Place
  -- an event of this type and body is whole, and is to be judged before the next byte
  whole : ℕ → List ℕ → Place
  -- the end was named, between two events
  ended : Place
  -- a refusal, and the length that it names: 13 names what is needed, any other 0
  stopped : Stop → ℕ → Place

-- so many bytes of the opening have come
abbrev pub opened : ℕ → Place
opened n = pick (ltb n 4) (opening n) (heading [])

-- so many bytes of an event are still to come; t of those that came or come are its trailer
abbrev pub arrived : ℕ → ℕ → ℕ → List ℕ → Place
arrived t type zero came = whole type (take (length came - t) came)
arrived t type (suc n) came = inside type (suc n) came

abbrev pub passed : ℕ → Place
passed zero = heading []
passed (suc n) = passing (suc n)

-- behind a header that is whole: 18, then 11, which is only for the types that are read
unfoldable pub judged : ℕ → ℕ → ℕ → Place
judged t type size =
    pick (ltb size (19 + t)) (stopped (stop_for bad_file) 0)
    (pick (is_read type)
    (pick (leb (size - (19 + t)) body_limit) (arrived t type (size - 19) []) (stopped (stop_for too_long) 0))
    (passed (size - 19)))

unfoldable pub headed : ℕ → List ℕ → Place
headed t came = pick (ltb (length came) 19) (heading came) (judged t (type_in came) (size_in came))

-- the next byte, where each event has a trailer of t bytes
abbrev pub next : ℕ → Place → ℕ → Place
next t (opening n) b = pick (eqb b (get_or the_opening n 0)) (opened (n + 1)) (stopped (stop_for bad_file) 0)
next t (heading came) b = headed t (came ++ b ∷ [])
next t (inside type n came) b = arrived t type (n - 1) (came ++ b ∷ [])
next t (passing n) b = passed (n - 1)
next t (whole type body) b = whole type body
next t ended b = stopped (stop_for bad_file) 0
next t (stopped r n) b = stopped r n

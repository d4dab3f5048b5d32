-- How a file is laid out, said of whole events and not byte by byte, and what any bytes come to by it.
use Rattle.std.specs.Prelude.{ℕ, ◌+◌, ◌-◌, ◌≤◌, ◌<◌, ◌≡◌, true, false, List, [], ◌∷◌, ◌++◌, length, take, get_or}
use Rattle.misc.specs.Pick.{pick}
use Rattle.misc.specs.Refusal as refusals
use Rattle.misc.specs.Refusal.{too_long, bad_file}
use Rattle.misc.specs.Body.{body_limit}
use Rattle.binlog.specs.Format.{the_opening, type_in, size_in, is_read}
use Rattle.binlog.specs.Stop.{Stop, stop_for}
use Rattle.binlog.specs.Place.{opening, heading, inside, passing, ended, stopped}
use Rattle.binlog.specs.Run.{Done, did, fails, Run, at}

-- an event's three parts
pub record FileEvent : Type 0 where
  pub header : List ℕ
  pub body : List ℕ
  pub tail : List ℕ

abbrev pub bytes_of : FileEvent → List ℕ
bytes_of e = e.header ++ (e.body ++ e.tail)

-- laid out: the header has 19 bytes and tells the size, the tail has t, and the body of a type that is read keeps the limit
pub record LaidOut (t : ℕ) (e : FileEvent) : Type 0 where
  pub head : length e.header ≡ 19
  pub trail : length e.tail ≡ t
  pub size : size_in e.header ≡ 19 + (length e.body + t)
  pub short : is_read (type_in e.header) ≡ true → length e.body ≤ body_limit

abbrev pub AllLaidOut : ℕ → List FileEvent → Type 0
AllLaidOut t [] = Unit {0}
AllLaidOut t (e ∷ es) = LaidOut t e × AllLaidOut t es

abbrev pub events_bytes : List FileEvent → List ℕ
events_bytes [] = []
events_bytes (e ∷ es) = bytes_of e ++ events_bytes es

unfoldable pub file_of : List FileEvent → List ℕ
file_of es = the_opening ++ events_bytes es

-- on with the rest, behind an event that was judged; or the reader stops
abbrev pub and_on : {S A : Type 0} → S → List A → Done S A → (S → List A → Run S A) → Run S A
and_on s said (did a s') rest = rest s' (said ++ a ∷ [])
and_on s said (fails r n) rest = at (stopped r n) s said

-- what a list of events does: a type that is read is judged, any other is skipped
module _ {S A : Type 0} (does : S → ℕ → List ℕ → Done S A) where
  abbrev pub goes : List FileEvent → S → List A → Run S A
  goes [] s said = at (heading []) s said
  goes (e ∷ es) s said =
      pick (is_read (type_in e.header)) (and_on s said (does s (type_in e.header) e.body) (goes es)) (goes es s said)

-- ---- what any bytes come to

-- a header that is whole and tells a size that is great enough, and for a type that is read not too great
pub record HeaderFine (t : ℕ) (header : List ℕ) : Type 0 where
  pub whole : length header ≡ 19
  pub least : 19 + t ≤ size_in header
  pub most : is_read (type_in header) ≡ true → size_in header - (19 + t) ≤ body_limit

module _ {S A : Type 0} (does : S → ℕ → List ℕ → Done S A) (t : ℕ) (s : S) where
  -- events that are laid out, of which none is refused: they give these answers, and this is kept then
  pub record Through (es : List FileEvent) (s' : S) (said : List A) : Type 0 where
    pub laid : AllLaidOut t es
    pub well : goes does es s [] ≡ at (heading []) s' said

  -- before the end is named
  pub data Says : List ℕ → Run S A → Type 0 where
    in_opening : (n : ℕ) → n < 4 → Says (take n the_opening) (at (opening n) s [])
    -- 18: a wrong byte of the opening, whatever follows it
    wrong_opening : (n b : ℕ) (rest : List ℕ) → n < 4 → (b ≡ get_or the_opening n 0 → ⊥)
        → Says (take n the_opening ++ (b ∷ rest)) (at (stopped (stop_for bad_file) 0) s [])
    -- between two events, or in a header
    in_header : {es : List FileEvent} {s' : S} {said : List A} (came : List ℕ) → Through es s' said → length came < 19
        → Says (file_of es ++ came) (at (heading came) s' said)
    -- 18: a size too small for header and trailer, whatever the type
    small_size : {es : List FileEvent} {s' : S} {said : List A} (header rest : List ℕ) → Through es s' said → length header ≡ 19
        → size_in header < 19 + t → Says (file_of es ++ (header ++ rest)) (at (stopped (stop_for bad_file) 0) s' said)
    -- 11: a body that is too long, of a type that is read
    long_body : {es : List FileEvent} {s' : S} {said : List A} (header rest : List ℕ) → Through es s' said → length header ≡ 19
        → 19 + t ≤ size_in header → is_read (type_in header) ≡ true → body_limit < size_in header - (19 + t)
        → Says (file_of es ++ (header ++ rest)) (at (stopped (stop_for too_long) 0) s' said)
    -- in an event that is read, and in one that is skipped
    in_event : {es : List FileEvent} {s' : S} {said : List A} (header came : List ℕ) → Through es s' said → HeaderFine t header
        → is_read (type_in header) ≡ true → 19 + length came < size_in header
        → Says (file_of es ++ (header ++ came)) (at (inside (type_in header) (size_in header - 19 - length came) came) s' said)
    in_skipped : {es : List FileEvent} {s' : S} {said : List A} (header came : List ℕ) → Through es s' said → HeaderFine t header
        → is_read (type_in header) ≡ false → 19 + length came < size_in header
        → Says (file_of es ++ (header ++ came)) (at (passing (size_in header - 19 - length came)) s' said)
    -- an event that is whole and refused, whatever follows it
    bad_event : {es : List FileEvent} {s' : S} {said : List A} {r : Stop} {n : ℕ} (e : FileEvent) (rest : List ℕ) → Through es s' said → LaidOut t e
        → is_read (type_in e.header) ≡ true → does s' (type_in e.header) e.body ≡ fails r n
        → Says (file_of es ++ (bytes_of e ++ rest)) (at (stopped r n) s' said)

  -- and behind it
  pub data EndSays : List ℕ → Run S A → Type 0 where
    -- well: the file is laid out, and none of its events is refused
    well : {es : List FileEvent} {s' : S} {said : List A} → Through es s' said → EndSays (file_of es) (at ended s' said)
    -- 1: inside the opening, a header, or an event
    cut_opening : (n : ℕ) → n < 4 → EndSays (take n the_opening) (at (stopped (stop_for refusals.ended) 0) s [])
    cut_header : {es : List FileEvent} {s' : S} {said : List A} (came : List ℕ) → Through es s' said → 0 < length came → length came < 19
        → EndSays (file_of es ++ came) (at (stopped (stop_for refusals.ended) 0) s' said)
    cut_event : {es : List FileEvent} {s' : S} {said : List A} (header came : List ℕ) → Through es s' said → HeaderFine t header
        → 19 + length came < size_in header → EndSays (file_of es ++ (header ++ came)) (at (stopped (stop_for refusals.ended) 0) s' said)
    -- a refusal that came before stays
    stays : {bs : List ℕ} {s' : S} {said : List A} {r : Stop} {n : ℕ} → Says bs (at (stopped r n) s' said) → EndSays bs (at (stopped r n) s' said)

-- The table of refusals: each has a number from 1 on. 13, an output that is too short, is a writer's alone and names the length that is needed.
use Rattle.std.specs.Prelude.{ℕ}
pub use Rattle.misc.specs.declared.refusal.Refusal.{Refusal}
use Rattle.misc.specs.declared.refusal.Refusal.TheVariants as why
pub use Rattle.misc.specs.declared.refusal.WriteError.{WriteError}
pub use Rattle.misc.specs.declared.refusal.WriteError.TheVariants.{Refused, NoRoom}

-- its number, never 0
abbrev pub number : Refusal → ℕ
number why.Ended = 1
number why.TooLarge = 2
number why.Negative = 3
number why.WrongVersion = 4
number why.UnknownField = 5
number why.BadTag = 6
number why.NoTag = 7
number why.WrongType = 8
number why.SmallPayload = 9
number why.BadLead = 10
number why.TooLong = 11
number why.NotWritable = 12
number why.NotASet = 14
number why.BadGno = 15
number why.Full = 16
number why.Crowded = 17
number why.BadFile = 18
number why.AbsentId = 21
number why.Diverged = 22

-- the number of a writer's error, and the length that it names, 0 where that isn't what is wrong
abbrev pub error_number : WriteError → ℕ
error_number (Refused r) = number r
error_number (NoRoom n) = 13

abbrev pub error_needed : WriteError → ℕ
error_needed (Refused r) = 0
error_needed (NoRoom n) = n

-- ---- the table

-- bytes, or the declared payload, end inside a wanted item
abbrev pub ended : Refusal
ended = why.Ended

-- tagged: a uuid item or the flags above 255, a server version above 2^32-1
abbrev pub too_large : Refusal
too_large = why.TooLarge

-- tagged: gno, last_committed or sequence_number negative
abbrev pub negative : Refusal
negative = why.Negative

-- tagged: the version byte isn't 2
abbrev pub wrong_version : Refusal
wrong_version = why.WrongVersion

-- an unknown field id, at most the last non-ignorable id
abbrev pub unknown_field : Refusal
unknown_field = why.UnknownField

-- a tag breaks the tag rule
abbrev pub bad_tag : Refusal
bad_tag = why.BadTag

-- a tagged event ends without a tag
abbrev pub no_tag : Refusal
no_tag = why.NoTag

-- an event type that the call doesn't serve
abbrev pub wrong_type : Refusal
wrong_type = why.WrongType

-- the declared payload is smaller than its envelope
abbrev pub small_payload : Refusal
small_payload = why.SmallPayload

-- a length-encoded lead byte FB or FF
abbrev pub bad_lead : Refusal
bad_lead = why.BadLead

-- a body over 65,536 bytes, or a set behind the sixty-fourth of a report
abbrev pub too_long : Refusal
too_long = why.TooLong

-- a record that can't be written, bytes that are no report, or a binlog reader that no call made
abbrev pub not_writable : Refusal
not_writable = why.NotWritable

-- a lent set that isn't in set form, or breaks the set limits
abbrev pub not_a_set : Refusal
not_a_set = why.NotASet

-- a gno or an interval outside the gno rule
abbrev pub bad_gno : Refusal
bad_gno = why.BadGno

-- full: the result's set form has too many entries, or too many intervals together
abbrev pub full : Refusal
full = why.Full

-- crowded: an entry of the result's set form has more intervals than one may have (CR 11); judged just before `full`
abbrev pub crowded : Refusal
crowded = why.Crowded

-- a binlog file: a wrong opening byte, a size too small for header and trailer, or bytes after the named end (CR 2)
abbrev pub bad_file : Refusal
bad_file = why.BadFile

-- a tagged event was sent without its uuid or its gno, and its id is asked for (CR 6)
abbrev pub absent_id : Refusal
absent_id = why.AbsentId

-- diverged: each of two sets has an id that the other lacks (CR 9)
abbrev pub diverged : Refusal
diverged = why.Diverged

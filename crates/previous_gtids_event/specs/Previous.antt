-- How the body of a Previous-GTIDs event (type 35) is read, from left to right.
use Rattle.std.specs.Prelude.{ℕ, ◌/◌, ◌%◌, ◌^◌, ◌≡◌, Bool, true, false, not, List, [], ◌++◌, length, eqb}
use Rattle.misc.specs.Pick.{pick}
use Rattle.misc.specs.Refusal.{bad_tag}
use Rattle.misc.specs.Parse.{Parse, parsed, and_then, mapped, judged, many, bytes_at}
use Rattle.misc.specs.Body.{of_body}
use Rattle.misc.specs.Le.{le_at}
use Rattle.misc.specs.Varlen.{varlen_at}
use Rattle.packets.specs.Gno.{Interval, interval}
use Rattle.packets.specs.Key.{Key}
use Rattle.packets.specs.Tag.{none_or_tag}
use Rattle.previous_gtids_event.specs.Entry.{Entry, entry, uuid_of, tag_of}

-- a key as it is read: 16 uuid bytes, and no tag or one that obeys the tag rule
pub record GoodKey (k : Key) : Type 0 where
  pub uuid : length (uuid_of k) ≡ 16
  pub rule : none_or_tag (tag_of k) ≡ true

-- a tag with its length is one item; entries of an untagged body have none
unfoldable pub tag_at : Bool → List ℕ → ℕ → Parse (List ℕ)
tag_at false s at = parsed [] at
tag_at true s at = judged none_or_tag bad_tag (and_then (varlen_at s at) (λ n from. bytes_at n s from))

unfoldable pub key_at : Bool → List ℕ → ℕ → Parse Key
key_at tagged s at = and_then (bytes_at 16 s at) (λ uuid next. mapped (λ tag. uuid ++ tag) (tag_at tagged s next))

-- an entry's head: its key, and how many intervals follow
pub data Head : Type 0 where
  head : Key → ℕ → Head

unfoldable pub head_at : Bool → List ℕ → ℕ → Parse Head
head_at tagged s at = and_then (key_at tagged s at) (λ key next. mapped (head key) (le_at 8 s next))

-- an interval: start, and the end that it doesn't reach
unfoldable pub interval_at : List ℕ → ℕ → Parse Interval
interval_at s at = and_then (le_at 8 s at) (λ start next. mapped (interval start) (le_at 8 s next))

-- the intervals that a head announces
abbrev pub intervals_after : List ℕ → Head → ℕ → Parse Entry
intervals_after s (head key count) first = mapped (entry key) (many (interval_at s) count first)

unfoldable pub entry_at : Bool → List ℕ → ℕ → Parse Entry
entry_at tagged s at = and_then (head_at tagged s at) (intervals_after s)

-- ---- the header: with top byte 0 the rest counts the entries; with any other the entries have tags, and bits 8 to 55 count them
unfoldable pub says_tagged : ℕ → Bool
says_tagged header = not (eqb (header / 2 ^ 56) 0)

unfoldable pub says_count : ℕ → ℕ
says_count header = pick (says_tagged header) (header / 256 % 2 ^ 48) (header % 2 ^ 56)

abbrev pub entries_after : List ℕ → ℕ → ℕ → Parse (List Entry)
entries_after s header at = many (entry_at (says_tagged header) s) (says_count header) at

-- the header and the entries, however many bytes there are
abbrev pub entries_in : List ℕ → Parse (List Entry)
entries_in s = and_then (le_at 8 s 0) (entries_after s)

-- the whole body
unfoldable pub previous : List ℕ → Parse (List Entry)
previous s = of_body s (entries_in s)

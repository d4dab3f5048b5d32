-- How a result is written, entry by entry, and how large it is.
use Rattle.std.specs.Prelude.{ℕ, ◌+◌, ◌-◌, ◌*◌, ◌/◌, ◌^◌, ◌<◌, ◌≤◌, ◌≡◌, Bool, true, false, ◌||◌, List, [], ◌∷◌, ◌++◌, length, eqb, ltb}
use Rattle.misc.specs.Pick.{pick}
use Rattle.previous_gtids_event.specs.Entry.{Entry}
use Rattle.previous_gtids_event.specs.Rewrite.{entries_bytes, any_tag, head_run}
use Rattle.gtid_sets.specs.Limits.{intervals, over, crowds}
use Rattle.two_sets.specs.Marks.{going, marks_bytes}
use Rattle.two_sets.specs.Pairs.{uuid_in, tag_in}
use Rattle.two_sets.specs.declared.Pair.{Pair}
use Rattle.two_sets.specs.declared.Made.{Made}

-- the bytes of an entry before its intervals, with tags or without: uuid, tag with its length, and count
abbrev pub head_length : Bool → ℕ → ℕ
head_length true n = 25 + n
head_length false n = 24

-- an entry with these marks, unless there are none
abbrev pub kept_run : Bool → List ℕ → List ℕ → List ℕ → List ℕ
kept_run w uuid tag [] = []
kept_run w uuid tag (m ∷ ms) = head_run uuid w tag (length (m ∷ ms) / 2) ++ marks_bytes (m ∷ ms)

-- the next entry of a result
abbrev pub entry_run : (Bool → Bool → Bool) → Bool → List ℕ → List ℕ → Pair → List ℕ
entry_run op w bs cs p = kept_run w (uuid_in bs cs p.key) (tag_in bs cs p.key) (going op bs cs p.sides)

-- ---- how large a result is

-- one entry more, with a tag of so many bytes and so many marks, unless it has none
abbrev pub grown_by : Made → Bool → ℕ → ℕ → Made
grown_by z w len marks =
    pick (eqb marks 0) z
    (record {
      tagged = z.tagged || ltb 0 len;
      entries = z.entries + 1;
      intervals = z.intervals + marks / 2;
      crowded = z.crowded + over (marks / 2);
      end = z.end + head_length w len + 8 * marks;
    })

-- numbers that don't come near the end of their range
abbrev pub Below : Made → ℕ → ℕ → Type 0
Below z len marks =
    (z.entries < 2 ^ 48) × (z.intervals < 2 ^ 48) × (z.crowded < 2 ^ 48) × (z.end < 2 ^ 48) × (len ≤ 32) × (marks < 2 ^ 48)

-- these are the counts of a result, and the place behind its entries, written from place 8 on with tags or without
pub record MadeIs (s : List Entry) (w : Bool) (r : Made) : Type 0 where
  pub entries_is : r.entries ≡ length s
  pub intervals_is : r.intervals ≡ intervals s
  pub crowd_is : r.crowded ≡ crowds s
  pub tags_is : r.tagged ≡ any_tag s
  pub end_is : r.end ≡ 8 + length (entries_bytes w s)

-- the length of a set that was measured with tags: without them each entry has a byte less, that of the tag's length
abbrev pub made_length : Made → ℕ
made_length r = pick r.tagged r.end (r.end - r.entries)

-- How entries are written, as they come.
use Rattle.std.specs.Prelude.{ℕ, Bool, true, false, ◌||◌, List, [], ◌∷◌, ◌++◌, length, ltb}
use Rattle.misc.specs.Parse.{Parse, refuse, parsed}
use Rattle.misc.specs.Output.{Output, refused, bytes}
use Rattle.misc.specs.Le.{le_bytes}
use Rattle.misc.specs.Varlen.{varlen_bytes}
use Rattle.packets.specs.Gno.{Interval, interval}
use Rattle.previous_gtids_event.specs.Entry.{Entry, entry, uuid_of, tag_of}

unfoldable pub intervals_bytes : List Interval → List ℕ
intervals_bytes [] = []
intervals_bytes (interval start end ∷ is) = le_bytes 8 start ++ (le_bytes 8 end ++ intervals_bytes is)

-- a tag with its length, in a tagged body only
abbrev pub tag_bytes : Bool → List ℕ → List ℕ
tag_bytes false tag = []
tag_bytes true tag = varlen_bytes (length tag) ++ tag

-- an entry's head: uuid, tag and how many intervals follow
abbrev pub head_run : List ℕ → Bool → List ℕ → ℕ → List ℕ
head_run uuid tags tag n = uuid ++ tag_bytes tags tag ++ le_bytes 8 n

unfoldable pub entry_bytes : Bool → Entry → List ℕ
entry_bytes tagged (entry k is) = uuid_of k ++ (tag_bytes tagged (tag_of k) ++ (le_bytes 8 (length is) ++ intervals_bytes is))

unfoldable pub entries_bytes : Bool → List Entry → List ℕ
entries_bytes tagged [] = []
entries_bytes tagged (e ∷ es) = entry_bytes tagged e ++ entries_bytes tagged es

-- whether some entry has a tag
unfoldable pub any_tag : List Entry → Bool
any_tag [] = false
any_tag (entry k is ∷ es) = ltb 0 (length (tag_of k)) || any_tag es

-- a tagged body has 1 in its top and its bottom byte, and the count between
unfoldable pub header_bytes : Bool → ℕ → List ℕ
header_bytes false n = le_bytes 8 n
header_bytes true n = 1 ∷ (le_bytes 6 n ++ (1 ∷ []))

-- the whole body: tagged only if some entry has a tag
unfoldable pub body_bytes : List Entry → List ℕ
body_bytes es = header_bytes (any_tag es) (length es) ++ entries_bytes (any_tag es) es

-- what rewriting gives for what was read
abbrev pub rewritten : Parse (List Entry) → Output
rewritten (refuse r) = refused r
rewritten (parsed es next) = bytes (body_bytes es)

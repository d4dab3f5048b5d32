-- An entry of a Previous-GTIDs event: a key (the 16 uuid bytes, then the tag's bytes, none where there is no tag) and intervals of
-- transaction numbers. The resume set's entries are the same.
use Rattle.std.specs.Prelude.{ℕ, List, take, drop}
use Rattle.packets.specs.Gno.{Interval}
use Rattle.packets.specs.Key.{Key}

pub data Entry : Type 0 where
  entry : Key → List Interval → Entry

unfoldable pub uuid_of : Key → List ℕ
uuid_of k = take 16 k

unfoldable pub tag_of : Key → List ℕ
tag_of k = drop 16 k

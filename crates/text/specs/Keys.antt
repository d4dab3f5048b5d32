-- The text of keys: a uuid with its dashes, and the tag after a colon if there is one.
use Rattle.std.specs.Prelude.{ℕ, List, [], ◌∷◌, ◌++◌}
use Rattle.misc.specs.Parse.{part}
use Rattle.text.specs.Digits.{hex}

abbrev pub colon : ℕ
colon = 58

abbrev pub dash : ℕ
dash = 45

-- 4, 2, 2, 2 and 6 bytes
unfoldable pub uuid_text : List ℕ → List ℕ
uuid_text u = hex (part u 0 4) ++ (dash ∷ hex (part u 4 2)) ++ (dash ∷ hex (part u 6 2)) ++ (dash ∷ hex (part u 8 2)) ++ (dash ∷ hex (part u 10 6))

-- a tag stands after a colon
abbrev pub tag_text : List ℕ → List ℕ
tag_text [] = []
tag_text (b ∷ bs) = colon ∷ b ∷ bs

unfoldable pub key_text : List ℕ → List ℕ → List ℕ
key_text uuid tag = uuid_text uuid ++ tag_text tag

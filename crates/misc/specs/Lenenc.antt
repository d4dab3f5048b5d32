-- Length-encoded integers of the protocol: a lead byte up to 250 is the value; FC, FD, FE lead 2, 3, 8 little-endian bytes.
use Rattle.std.specs.Prelude.{ℕ, ◌^◌, List, [], ◌∷◌, ltb, eqb}
use Rattle.misc.specs.Pick.{pick}
use Rattle.misc.specs.Refusal.{bad_lead}
use Rattle.misc.specs.Parse.{Parse, refuse, parsed, and_then, byte_at}
use Rattle.misc.specs.Le.{le_bytes, le_at}

-- what follows a lead byte, and what it makes of it
unfoldable pub led_at : ℕ → List ℕ → ℕ → Parse ℕ
led_at lead s at =
    pick (ltb lead 251) (parsed lead at)
    (pick (eqb lead 0xFC) (le_at 2 s at) (pick (eqb lead 0xFD) (le_at 3 s at) (pick (eqb lead 0xFE) (le_at 8 s at) (refuse bad_lead))))

unfoldable pub lenenc_at : List ℕ → ℕ → Parse ℕ
lenenc_at s at = and_then (byte_at s at) (λ lead after. led_at lead s after)

-- v in the shortest form
unfoldable pub lenenc_bytes : ℕ → List ℕ
lenenc_bytes v =
    pick (ltb v 251) (v ∷ [])
    (pick (ltb v (2 ^ 16)) (0xFC ∷ le_bytes 2 v) (pick (ltb v (2 ^ 24)) (0xFD ∷ le_bytes 3 v) (0xFE ∷ le_bytes 8 v)))

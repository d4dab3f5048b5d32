-- A key is the 16 uuid bytes followed by the tag's bytes, none where there is no tag. As every uuid has 16 bytes, the one bytewise
-- order with a prefix first is the order by uuid bytes, then no tag, then tags bytewise with a prefix first (`order-append` and
-- `prefix-first` of proofs/Keys.antt). That it rises with the bytes, `Rules` of promises says.
use Prim.Native.Nat.{ℕ, compare, Ordering}
use Rattle.std.specs.Prelude.{◌≡◌, Bool, List, [], ◌∷◌}
use Rattle.std.specs.declared.cmp.Ordering as cmp
use Rattle.std.specs.declared.cmp.Ordering.TheVariants.{Less, Equal, Greater}
use Rattle.std.proofs.Math.Dec.{compare_is_eq}

abbrev pub Key : Type 0
Key = List ℕ

-- the first comparison, or the second where the first finds no difference
abbrev pub or_else : Ordering → Ordering → Ordering
or_else Ordering.lt o = Ordering.lt
or_else Ordering.eq o = o
or_else Ordering.gt o = Ordering.gt

-- bytewise, a prefix first
abbrev pub order : Key → Key → Ordering
order [] [] = Ordering.eq
order [] (y ∷ ys) = Ordering.lt
order (x ∷ xs) [] = Ordering.gt
order (x ∷ xs) (y ∷ ys) = or_else (compare x y) (order xs ys)

infix 40 ◌≺◌
abbrev pub ◌≺◌ : Key → Key → Type 0
j ≺ k = order j k ≡ Ordering.lt

abbrev pub same : Key → Key → Bool
same j k = compare_is_eq (order j k)

-- the answer of `key_order`
abbrev pub order_read : Ordering → cmp.Ordering
order_read Ordering.lt = Less
order_read Ordering.eq = Equal
order_read Ordering.gt = Greater

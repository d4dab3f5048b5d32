-- Laws of the answer of `key_order`: what it says.
use Prim.Native.Nat.{Ordering}
use mathlib.Core.Path.{◌≡◌, refl}
use Rattle.std.specs.declared.cmp.Ordering.TheVariants.{Less, Equal, Greater}
use Rattle.packets.specs.Key.{order_read}

pub says-less : (o : Ordering) → order_read o ≡ Less → o ≡ Ordering.lt
says-less Ordering.lt e = refl
says-less Ordering.eq e = cc
says-less Ordering.gt e = cc

pub says-equal : (o : Ordering) → order_read o ≡ Equal → o ≡ Ordering.eq
says-equal Ordering.lt e = cc
says-equal Ordering.eq e = refl
says-equal Ordering.gt e = cc

pub says-greater : (o : Ordering) → order_read o ≡ Greater → o ≡ Ordering.gt
says-greater Ordering.lt e = cc
says-greater Ordering.eq e = cc
says-greater Ordering.gt e = refl

-- The steps of an opening that are its own, in the words of what the code's callees ensure. Assumes nothing.
use mathlib.Core.Path.{◌≡◌, sym}
use mathlib.Core.List.{List}
use Prim.Native.Nat.{ℕ, ◌-◌, ◌≤◌}
use native.Mathlib.Omega.{arith}
use lib.ListN.{length, take, drop}
use Rattle.answer.specs.Answer.{Out, done}
use Rattle.wire.specs.declared.place.Place.{Place}
use Rattle.wire.specs.Fields.{At, here, string}
use Rattle.wire.specs.Shown.{part}
use Rattle.wire.specs.Answers.{run_at}
use Rattle.layouts.specs.declared.ChannelType.{ChannelType}
use Rattle.layouts.specs.Types.{channel_type}
use Rattle.layouts.proofs.PlaceLaws.{Ran}
use Rattle.channels.proofs.PlaceLaws.{first_ran}

-- the type's name, which the code takes as the part of the body from the name's start up to the next field
module _ (s : List ℕ) (p : Place) (n : ℕ) (seen : done (run_at s p, here s n) ≡ string (here s 0)) where
  ran : Ran s (run_at s p) (here s n)
  ran = first_ran s (run_at s p) (here s n) (sym seen)

  pub name_order : p.start ≤ n
  name_order = let h = ran.ends in omega arith

  pub name_within : n ≤ length s
  name_within = ran.then.within

  name_bytes : take (n - p.start) (drop p.start s) ≡ part p s
  name_bytes = let h = ran.ends in let l : n - p.start ≡ p.len = omega arith in rw l

  -- it is that of the type which is judged
  pub typed : (c : At) (o : Out ChannelType) → o ≡ channel_type (record { place = p; bytes = take (n - p.start) (drop p.start s) }) c
      → o ≡ channel_type (run_at s p) c
  typed c o e = rw name_bytes at e

pub ruleset type_laws = (name_order, name_within)

-- Every place in an accepted opening lies inside the body that was read. Assumes nothing.
use mathlib.Core.Path.{◌≡◌}
use mathlib.Core.List.{List, []}
use Prim.Native.Nat.{ℕ, ◌+◌}
use native.Mathlib.Omega.{arith}
use lib.Dec.{leb}
use lib.ListN.{length, drop}
use Rattle.answer.specs.Answer.{done, guard}
use Rattle.answer.proofs.WalkLaws.{Post, at_end, go_on, of_accepted}
use Rattle.wire.specs.declared.place.Place.{Place}
use Rattle.wire.specs.Fields.{At, Run, here, string}
use Rattle.wire.specs.Shown.{shown}
use Rattle.wire.proofs.ShowLaws.{inside}
use Rattle.replies.specs.declared.offer.Offer.{Offer}
use Rattle.replies.specs.Confirmation.{most_body, offer}
use Rattle.layouts.specs.declared.ChannelType.{ChannelType}
use Rattle.layouts.specs.declared.ChannelType.TheVariants.{Unknown}
use Rattle.layouts.specs.Types.{channel_type}
use Rattle.layouts.proofs.PlaceLaws.{On, Ran, Placed, start_on, string_on, text, number, rest_shown, type_placed}
use Rattle.channels.specs.declared.OpenChannelMessage.{OpenChannelMessage}
use Rattle.channels.specs.Open.{read_open, rest_of}

abbrev Message : List ℕ → OpenChannelMessage → Type 0
Message b m = Placed b m.typ

abbrev Next : List ℕ → ℕ → Offer × At → Type 0
Next b n x = On b x.1 × (x.1.at ≡ n + 12)

module _ (b : List ℕ) where
  pub first_ran : (t : Run) (c : At) → string (here b 0) ≡ done (t, c) → Ran b t c
  first_ran t c e = (of_accepted (t, c) (string_on b (here b 0) (start_on b)) e).0

  offer_on : (c : At) → On b c → Post (Next b c.at) (offer c)
  unfolding offer
  offer_on c o =
      number b c _ o (λ x o₁ i. number b x.1 _ o₁ (λ y o₂ j. number b y.1 _ o₂ (λ z o₃ k.
      go_on _ _ (λ u g. at_end (o₃, omega arith)))))

  open_placed : Post (Message b) (read_open b)
  unfolding read_open
  open_placed =
      go_on (guard 1 (leb (length b) most_body)) _ (λ u g. text b (here b 0) _ (start_on b) (λ x r l.
      go_on (offer x.1) _ (λ y e. go_on (channel_type x.0 y.1) _ (λ t k.
      let n = of_accepted y (offer_on x.1 r.then) e in
      let f = r.ends in
      at_end (of_accepted t (type_placed b x.0 y.1 l n.0 (omega (arith, n.1))) k)))))

  -- what the reader accepts names only places in the body
  pub accepted_placed : (m : OpenChannelMessage) → read_open b ≡ done m → Placed b m.typ
  accepted_placed m e = of_accepted m open_placed e

  -- what `rest` shows of the body that was read: of an unknown type all that follows its four fields ..
  pub accepted_rest : (m : OpenChannelMessage) (typ rest : Place) → read_open b ≡ done m → m.typ ≡ Unknown typ rest
      → shown b (rest_of m.typ) ≡ done (drop (typ.start + typ.len + 12) b)
  accepted_rest m typ rest e f = let p = rw f at (accepted_placed m e) in rw f (rest_shown b typ rest p.1)

  -- .. and of a known one no byte, whatever slice is lent
  pub known_shown : (t : ChannelType) → rest_of t ≡ record { start = 0; len = 0 } → shown b (rest_of t) ≡ done []
  known_shown t e = rw e (inside b (record { start = 0; len = 0 }) (omega arith))

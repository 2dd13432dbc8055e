-- Laws of the types' reader. Assumes nothing.
use mathlib.Core.Path.{◌≡◌}
use Prim.Native.Nat.{ℕ}
use Rattle.answer.specs.Answer.{refused, done, ◌>>=◌}
use Rattle.std.specs.Prelude.{Result}
use Rattle.answer.specs.declared.Refusal.{Refusal as Answered}
use Rattle.answer.specs.Refusal.{Refusal}
use Rattle.answer.proofs.Laws.{outcome_unique}
use Rattle.wire.specs.Fields.{At, Run, word, string}
use Rattle.layouts.specs.declared.ChannelType.TheVariants.{DirectStreamLocal, ForwardedStreamLocal}
use Rattle.layouts.specs.declared.ChannelType.{ChannelType}
use Rattle.layouts.specs.Types.{exact, direct_stream_local, forwarded_stream_local, got_type}

-- no two answers have one meaning
pub got_type_unique : (a b : Result ChannelType Answered) → got_type a ≡ got_type b → a ≡ b
got_type_unique a b e = outcome_unique (λ t. t) (λ t u h. h) a b e

-- the reserved fields of the streamlocal types: what is wrong with one is refused with its number ..
module _ (c c₁ : At) (path : Run) (e : string c ≡ done (path, c₁)) where
  pub direct_text : (r : Refusal) → string c₁ ≡ refused r → direct_stream_local c ≡ refused r
  unfolding direct_stream_local ◌>>=◌
  direct_text r f = rw (e, f)

  pub forwarded_text : (r : Refusal) → string c₁ ≡ refused r → forwarded_stream_local c ≡ refused r
  unfolding forwarded_stream_local ◌>>=◌
  forwarded_text r f = rw (e, f)

  -- .. and what is right leaves no trace
  module _ (reserved : Run) (c₂ : At) (f : string c₁ ≡ done (reserved, c₂)) where
    pub direct_number : (r : Refusal) → word c₂ ≡ refused r → direct_stream_local c ≡ refused r
    unfolding direct_stream_local ◌>>=◌
    direct_number r g = rw (e, f, g)

    pub direct_not_kept : (n : ℕ) (c₃ : At) → word c₂ ≡ done (n, c₃)
        → direct_stream_local c ≡ exact (DirectStreamLocal (record { socket_path = path.place })) c₃
    unfolding direct_stream_local ◌>>=◌
    direct_not_kept n c₃ g = rw (e, f, g)

    pub forwarded_not_kept : forwarded_stream_local c ≡ exact (ForwardedStreamLocal (record { socket_path = path.place })) c₂
    unfolding forwarded_stream_local ◌>>=◌
    forwarded_not_kept = rw (e, f)

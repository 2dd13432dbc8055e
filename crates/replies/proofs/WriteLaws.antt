-- From what the code of `fail` tells on its way to an answer to what its contract says of that answer. Assumes nothing.
use mathlib.Core.Path.{◌≡◌, refl, sym, ap, ◌∙◌}
use mathlib.Core.List.{List, [], ◌∷◌, ◌++◌, append_assoc}
use Prim.Native.Nat.{ℕ, ◌+◌, ◌≤◌, ◌<◌}
use native.Mathlib.Omega.{arith}
use lib.ListN.{length}
use Rattle.answer.specs.Refusal.{Refusal}
use Rattle.answer.specs.Answer.{Out, refused, done, refuse, ◌>>=◌}
use Rattle.answer.proofs.Laws.{un_done, not_both}
use Rattle.text.specs.Literal.{bytes}
use Rattle.put.specs.Written.{written, buffer, word, string}
use Rattle.put.proofs.PutLaws.{both, both_written, string_short, written_fits, written_full, buffer_fits, buffer_full}
use Rattle.replies.specs.Failure.{failure, payload}
use Rattle.replies.proofs.FailureLaws.{failure_short, failure_long, payload_length}

-- the payload up to "en"
abbrev said : ℕ → ℕ → List ℕ → List ℕ
said recipient reason text = (92 ∷ word recipient ++ word reason) ++ (word (length text) ++ text)

whole : (recipient reason : ℕ) (text : List ℕ) → said recipient reason text ++ (word 2 ++ bytes "en") ≡ payload recipient reason text
unfolding payload word
whole recipient reason text = simp append_assoc

-- x stands at the front of what was out, and the next put goes behind it
abbrev Stood : List ℕ → List ℕ → List ℕ → ℕ → Type 0
Stood out x d n = (d ≡ buffer out 0 (done x)) × (n ≡ 0 + length x)

-- so where all has room, what is put behind it stands there too, and is not refused
module _ (out x y d : List ℕ) (n : ℕ) (s : Stood out x d n) (room : 0 + length (x ++ y) ≤ length out) where
  put_behind : written d n (done y) ≡ done (0 + length (x ++ y))
  put_behind = rw (s.0, s.1) (both_written out 0 x y ∙ written_fits out 0 (x ++ y) room)

  stand : (m : ℕ) (d' : List ℕ) → done m ≡ written d n (done y) → d' ≡ buffer d n (done y) → Stood out (x ++ y) d' m
  stand m d' e f = (rw (f, s.0, s.1) (both out 0 x y room), un_done (e ∙ put_behind))

  fell : {r : Refusal} {G : Type 0} → refused r ≡ written d n (done y) → G
  fell e = absurd (not_both (sym (e ∙ put_behind)))

-- the five puts of the payload: none is refused, and the last answers for all
module _ (out : List ℕ) (recipient reason : ℕ) (text : List ℕ)
    (q : (length text ≤ 1024) × (19 + length text ≤ length out)) where
  start : Stood out [] out 0
  start = (sym (buffer_fits out 0 [] (omega arith)), refl)

  pub first_fell : {r : Refusal} {G : Type 0} → refused r ≡ written out 0 (done (92 ∷ [])) → G
  first_fell e = fell out [] (92 ∷ []) out 0 start (omega (arith, q.1)) e

  module _ (n₁ : ℕ) (d₁ : List ℕ) (a₁ : done n₁ ≡ written out 0 (done (92 ∷ []))) (b₁ : d₁ ≡ buffer out 0 (done (92 ∷ []))) where
    s₁ : Stood out (92 ∷ []) d₁ n₁
    s₁ = stand out [] (92 ∷ []) out 0 start (omega (arith, q.1)) n₁ d₁ a₁ b₁

    two : 0 + length (92 ∷ word recipient) ≤ length out
    unfolding word
    two = omega (arith, q.1)

    pub second_fell : {r : Refusal} {G : Type 0} → refused r ≡ written d₁ n₁ (done (word recipient)) → G
    second_fell e = fell out (92 ∷ []) (word recipient) d₁ n₁ s₁ two e

    module _ (n₂ : ℕ) (d₂ : List ℕ) (a₂ : done n₂ ≡ written d₁ n₁ (done (word recipient))) (b₂ : d₂ ≡ buffer d₁ n₁ (done (word recipient))) where
      s₂ : Stood out (92 ∷ word recipient) d₂ n₂
      s₂ = stand out (92 ∷ []) (word recipient) d₁ n₁ s₁ two n₂ d₂ a₂ b₂

      three : 0 + length (92 ∷ word recipient ++ word reason) ≤ length out
      unfolding word
      three = omega (arith, q.1)

      pub third_fell : {r : Refusal} {G : Type 0} → refused r ≡ written d₂ n₂ (done (word reason)) → G
      third_fell e = fell out (92 ∷ word recipient) (word reason) d₂ n₂ s₂ three e

      module _ (n₃ : ℕ) (d₃ : List ℕ) (a₃ : done n₃ ≡ written d₂ n₂ (done (word reason))) (b₃ : d₃ ≡ buffer d₂ n₂ (done (word reason))) where
        s₃ : Stood out (92 ∷ word recipient ++ word reason) d₃ n₃
        s₃ = stand out (92 ∷ word recipient) (word reason) d₂ n₂ s₂ three n₃ d₃ a₃ b₃

        four : 0 + length (said recipient reason text) ≤ length out
        unfolding word
        four = omega (arith, q.1)

        short : string text ≡ done (word (length text) ++ text)
        short = string_short text (omega (arith, q.0))

        pub fourth_fell : {r : Refusal} {G : Type 0} → refused r ≡ written d₃ n₃ (string text) → G
        fourth_fell e =
            fell out (92 ∷ word recipient ++ word reason) (word (length text) ++ text) d₃ n₃ s₃ four (rw short at e)

        module _ (n₄ : ℕ) (d₄ : List ℕ) (a₄ : done n₄ ≡ written d₃ n₃ (string text)) (b₄ : d₄ ≡ buffer d₃ n₃ (string text)) where
          s₄ : Stood out (said recipient reason text) d₄ n₄
          s₄ =
              stand out (92 ∷ word recipient ++ word reason) (word (length text) ++ text) d₃ n₃ s₃ four n₄ d₄ (rw short at a₄)
              (rw short at b₄)

          pub all_put : (m : Out ℕ) (d₅ : List ℕ) → m ≡ written d₄ n₄ (string (bytes "en")) → d₅ ≡ buffer d₄ n₄ (string (bytes "en"))
              → (narrow : ℕ) → reason ≡ narrow
              → (m ≡ written out 0 (failure recipient narrow text)) × (d₅ ≡ buffer out 0 (failure recipient narrow text))
          all_put m d₅ k l narrow r =
              let x = said recipient reason text in
              let y = word 2 ++ bytes "en" in
              let w = whole recipient reason text in
              let f = failure_short recipient reason text q.0 in
              let e = string_short (bytes "en") (omega arith) in
              let room : 0 + length (x ++ y) ≤ length out = omega (arith, q.1, ap length w, payload_length recipient reason text) in (
                rw (← r, k, e, f, ← w, s₄.0, s₄.1) (both_written out 0 x y),
                rw (← r, l, e, f, ← w, s₄.0, s₄.1) (both out 0 x y room),
              )

-- the two refusals change nothing
module _ (out : List ℕ) (recipient reason : ℕ) (text : List ℕ) where
  pub long_refused : 1024 < length text → refuse 1 ≡ written out 0 (failure recipient reason text)
  unfolding written ◌>>=◌
  long_refused h = rw (failure_long recipient reason text h)

  pub long_kept : 1024 < length text → out ≡ buffer out 0 (failure recipient reason text)
  unfolding buffer
  long_kept h = rw (failure_long recipient reason text h)

  module _ (short : length text ≤ 1024) (full : length out < 19 + length text) where
    over : length out < 0 + length (payload recipient reason text)
    over = rw payload_length (omega arith)

    pub full_refused : refuse 8 ≡ written out 0 (failure recipient reason text)
    full_refused = rw (failure_short recipient reason text short, written_full out 0 (payload recipient reason text) over)

    pub full_kept : out ≡ buffer out 0 (failure recipient reason text)
    full_kept = rw (failure_short recipient reason text short, buffer_full out 0 (payload recipient reason text) over)

pub ruleset refusal_laws = (long_refused, long_kept, full_refused, full_kept)

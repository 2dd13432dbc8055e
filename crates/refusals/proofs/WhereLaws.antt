-- Where it broke: a reader beside itself on the input that is cut at its refusal's offset. Assumes nothing.
use mathlib.Core.Path.{◌≡◌, refl, sym, ap, ◌∙◌}
use mathlib.Core.Bool.{Bool, true, false, ◌&&◌, true≢false}
use mathlib.Core.List.{List}
use mathlib.Core.Option.{Option, some, none}
use Prim.Native.Nat.{ℕ, ◌+◌, ◌-◌, ◌≤◌, ◌<◌}
use native.Mathlib.Omega.{arith}
use lib.Dec.{leb}
use lib.ListN.{length, take, drop}
use lib.Seq.{take-add, drop_at, length-take-le}
use Rattle.answer.specs.Refusal.{Refusal}
use Rattle.answer.specs.Answer.{Out, refused, done, refuse_at, guard_at, ◌>>=◌}
use Rattle.answer.proofs.Laws.{split, un_refused, not_both}
use Rattle.text.specs.Same.{same}
use Rattle.wire.specs.Fields.{At, here, end}
use Rattle.filters.specs.Picked.{member}
use Rattle.negotiation.specs.Read.{settle, settle_mac, needs_mac, no_mac}
use Rattle.refusals.proofs.CutLaws.{clip, clip_none, before, Reads, bad, good, Field}

-- a judgement of what a field holds: it refuses at the field's place, if at all
pub data Judges {Y : Type 0} (j : ℕ) : Out Y → Type 0 where
  fails : (n : ℕ) → (n ≡ 5 → ⊥) → Judges j (refuse_at n j)
  passes : (y : Y) → Judges j (done y)

pub settle_judges : (n j : ℕ) → (n ≡ 5 → ⊥) → (o : Option (List ℕ)) → Judges j (settle n j o)
unfolding settle
settle_judges n j z none = fails n z
settle_judges n j z (some name) = passes name

pub mac_judges : (cipher : List ℕ) (j : ℕ) (o : Option (List ℕ)) → Judges j (settle_mac cipher j o)
unfolding settle_mac
mac_judges cipher j none = split (needs_mac cipher) (λ t. rw t (fails 13 (λ z. omega arith))) (λ t. rw t (passes no_mac))
mac_judges cipher j (some mac) = split (needs_mac cipher && same mac no_mac) (λ t. rw t (fails 13 (λ z. omega arith))) (λ t. rw t (passes mac))

pub test_judges : (n j : ℕ) → (n ≡ 5 → ⊥) → (b : Bool) → Judges j (guard_at n j b)
test_judges n j z true = passes tt
test_judges n j z false = fails n z

-- the input cut at i, from k on
pub clip_here : (s : List ℕ) (k i : ℕ) → k ≤ length s → k ≤ i → ◌≡◌ {A = At} (clip i (here s k)) (here (take i s) k)
clip_here s k i h l =
    let e : i ≡ k + (i - k) = omega arith in
    ap (λ (x : List ℕ). record { at = k; left = x })
    (sym (ap (λ (m : ℕ). drop k (take m s)) e ∙ rw take-add (drop_at (take k s) (take (i - k) (drop k s)) k (length-take-le k s h))))

module _ (ns : List ℕ) (no5 : member 5 ns ≡ false) (r : Refusal) (p : ℕ) (behind : r.offset ≤ p) where
  abbrev i : ℕ
  i = r.offset

  -- what is so of the input cut at p, if the whole one is refused with r
  pub record Met {A : Type 0} (m : Out A) : Type 0 where
    pub stays : member r.number ns ≡ true → (n : ℕ) × (m ≡ refuse_at n i) × (p ≡ i → n ≡ 2)
    pub accepts : r.number ≡ 5 → p ≡ i → (a : A) × (m ≡ done a)

  -- a block whose first field stands at a, and the same of the cut input
  pub record Later {A : Type 0} (a : ℕ) (m : Out A) (m' : Out A) : Type 0 where
    pub met : m ≡ refused r → (a ≤ i) × Met m'

  pub value_later : {A : Type 0} (a : ℕ) (v : A) (m : Out A) → Later a (done v) m
  value_later a v m = record { met = λ h. absurd (not_both h) }

  -- the same block under another name
  pub named_later : {A : Type 0} (a : ℕ) (m m' m'' : Out A) → (a ≤ i → m' ≡ m'') → Later a m m' → Later a m m''
  named_later a m m' m'' e l = record { met = λ h. let w = l.met h in (w.0, rw (e w.0) at w.1) }

  -- a value made of what a block gives
  pub made_later : {A B : Type 0} (g : A → B) (a : ℕ) (m m' : Out A) → Later a m m' → Later a (m >>= λ x. done (g x)) (m' >>= λ x. done (g x))
  unfolding ◌>>=◌
  made_later g a (refused q) m' l =
      record {
        met = λ h.
            let w = l.met (ap refused (un_refused h)) in
            (w.0, record { stays = λ k. let v = w.1.stays k in (v.0, rw v.1, v.2); accepts = λ k z. let v = w.1.accepts k z in (g v.0, rw v.1) });
      }
  made_later g a (done x) m' l = record { met = λ h. absurd (not_both h) }

  -- a test of the whole: none of these numbers
  pub gate : {A : Type 0} (n : ℕ) (b b' : Bool) (a : ℕ) (f g : Unit {0} → Out A) → member n ns ≡ false → (n ≡ 5 → ⊥)
      → (a ≤ i → b ≡ true → b' ≡ true) → (b ≡ true → Later a (f tt) (g tt)) → Later 0 (guard_at n 0 b >>= f) (guard_at n 0 b' >>= g)
  unfolding ◌>>=◌
  gate n true b' a f g k z w l =
      record { met = λ h. let x = (l refl).met h in (omega arith, rw (w x.0 refl) x.1) }
  gate n false b' a f g k z w l =
      record {
        met = λ h.
            let e : n ≡ r.number = ap (λ (q : Refusal). q.number) (un_refused h) in
            (omega arith, record { stays = λ m. absurd (true≢false (sym m ∙ ap (λ (x : ℕ). member x ns) (sym e) ∙ k)); accepts = λ g _. absurd (z (e ∙ g)) });
      }

  module _ {X B : Type 0} (f : At → Out (X × At)) (F : Field f) (c : At) where
    -- cut in front of it the field is missing
    missing_two : (K : X × At → Out B) (m : ℕ) → (f (clip p c) >>= K) ≡ refuse_at m c.at → p ≡ c.at → m ≡ 2
    unfolding ◌>>=◌
    missing_two K m e w =
        let g : refuse_at 2 c.at ≡ refuse_at m c.at = rw (clip_none p c (sym w), F.missing c.at) at e in
        sym (ap (λ (x : Refusal). x.number) (un_refused g))

    -- it is refused where this field stands, by the field or by a judgement of it
    here_later : (K : X × At → Out B) (n : ℕ) → (n ≡ 5 → ⊥) → (f c >>= K) ≡ refuse_at n c.at
        → (m : ℕ) × ((f (clip p c) >>= K) ≡ refuse_at m c.at) → Later c.at (f c >>= K) (f (clip p c) >>= K)
    here_later K n z e y =
        record {
          met = λ h.
              let q = un_refused (sym e ∙ h) in
              let a : c.at ≡ i = ap (λ (x : Refusal). x.offset) q in
              let b : n ≡ r.number = ap (λ (x : Refusal). x.number) q in (
                omega arith,
                record {
                  stays = λ _. (y.0, y.1 ∙ ap (λ (x : ℕ). refuse_at y.0 x) a, λ w. missing_two K y.0 y.1 (w ∙ sym a));
                  accepts = λ g _. absurd (z (b ∙ g));
                },
              );
        }

    -- a field
    field_from : (K : X × At → Out B) → ((x : X) (d : At) → Later d.at (K (x, d)) (K (x, clip p d)))
        → Reads f c → Later c.at (f c >>= K) (f (clip p c) >>= K)
    unfolding ◌>>=◌
    field_from K k (bad n e z y) = here_later K n z (rw e) ((y p).0, rw (y p).1)
    field_from K k (good x d e o s y) =
        record { met = λ h. let w = (k x d).met (rw e at h) in (omega (arith, w.0), rw (s p (omega (arith, behind, w.0))) w.1) }

    pub field_later : (K : X × At → Out B) → ((x : X) (d : At) → Later d.at (K (x, d)) (K (x, clip p d)))
        → Later c.at (f c >>= K) (f (clip p c) >>= K)
    field_later K k = field_from K k (F.reads c)

    -- a field, and a judgement of what it holds
    module _ {Y : Type 0} (J : X → Out Y) (j : (x : X) → Judges c.at (J x)) (K : Y → X × At → Out B)
        (k : (y : Y) (x : X) (d : At) → Later d.at (K y (x, d)) (K y (x, clip p d))) where
      abbrev then : X × At → Out B
      then x = J x.0 >>= λ y. K y x

      judged_now : (x : X) (d : At) → f c ≡ done (x, d) → c.at ≤ d.at → ((n : ℕ) → d.at ≤ n → f (clip n c) ≡ done (x, clip n d))
          → ((n : ℕ) → n < d.at → f (clip n c) ≡ refuse_at 2 c.at) → (m : Out Y) → J x ≡ m → Judges c.at m → Later c.at (f c >>= then) (f (clip p c) >>= then)
      unfolding ◌>>=◌
      judged_now x d e o s t m g (fails n z) =
          here_later then n z (rw (e, g)) (before p d.at (λ b. (2, rw (t p b))) (λ b. (n, rw (s p b, g))))
      judged_now x d e o s t m g (passes y) =
          record { met = λ h. let w = (k y x d).met (rw (e, g) at h) in (omega (arith, w.0), rw (s p (omega (arith, behind, w.0)), g) w.1) }

      judged_from : Reads f c → Later c.at (f c >>= then) (f (clip p c) >>= then)
      unfolding ◌>>=◌
      judged_from (bad n e z y) = here_later then n z (rw e) ((y p).0, rw (y p).1)
      judged_from (good x d e o s t) = judged_now x d e o s t (J x) refl (j x)

      pub judged_later : Later c.at (f c >>= then) (f (clip p c) >>= then)
      judged_later = judged_from (F.reads c)

  -- the end, and what is then given
  pub end_later : {B : Type 0} (c : At) (K : Unit {0} → Out B) (b : B) → K tt ≡ done b → Later c.at (end c >>= K) (end (clip p c) >>= K)
  unfolding end ◌>>=◌
  end_later c K b e =
      split (leb (length c.left) 0)
      (λ t. record { met = λ h. absurd (not_both (sym e ∙ rw t at h)) })
      (λ t.
      record {
        met = λ h.
            let q = un_refused (rw t at h) in
            let a : c.at ≡ i = ap (λ (v : Refusal). v.offset) q in
            let n : r.number ≡ 5 = sym (ap (λ (v : Refusal). v.number) q) in (
              omega arith,
              record {
                stays = λ m. absurd (true≢false (sym m ∙ ap (λ (x : ℕ). member x ns) n ∙ no5));
                accepts = λ _ w. (b, ap (λ (x : At). end x >>= K) (clip_none p c (a ∙ sym w)) ∙ e);
              },
            );
      })

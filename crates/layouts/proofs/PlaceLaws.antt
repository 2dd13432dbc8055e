-- Every place in an accepted type lies inside the body that was read, and holds well-formed text; the rest of an unknown type
-- goes up to the body's end. Assumes nothing.
use mathlib.Core.Path.{◌≡◌, refl, ◌∙◌}
use mathlib.Core.Bool.{Bool, true}
use mathlib.Core.List.{List}
use Prim.Native.Nat.{ℕ, ◌+◌, ◌-◌, ◌≤◌}
use Prim.Native.String.{String}
use native.Mathlib.Omega.{arith}
use borrow.Author.Tests.{leb-true}
use lib.Dec.{leb}
use lib.ListN.{length, drop, length-drop}
use lib.Seq.{drop-drop, take_all}
use Rattle.answer.specs.Answer.{Out, done, guard_at, ◌>>=◌}
use Rattle.answer.proofs.Laws.{split}
use Rattle.answer.proofs.WalkLaws.{Post, at_end, go_on, of_accepted, passed}
use Rattle.text.specs.Literal.{bytes}
use Rattle.text.specs.Same.{same}
use Rattle.text.specs.Utf8.{utf8}
use Rattle.wire.specs.declared.place.Place.{Place}
use Rattle.wire.specs.Fields.{At, Run, here, word, run, string, end}
use Rattle.wire.specs.Shown.{part, shown}
use Rattle.wire.proofs.ShowLaws.{inside}
use Rattle.layouts.specs.declared.ChannelType.{ChannelType}
use Rattle.layouts.specs.declared.ChannelType.TheVariants.{Session, X11, DirectTcpip, DirectStreamLocal, ForwardedTcpIp, ForwardedStreamLocal, AgentForward, Unknown}
use Rattle.layouts.specs.declared.TcpChannelInfo.{TcpChannelInfo}
use Rattle.layouts.specs.Types.{left_at, exact, x11, tcpip, direct_stream_local, forwarded_stream_local, openssh_type, channel_type}

-- a reader that is somewhere in b
pub record On (b : List ℕ) (c : At) : Type 0 where
  pub left : c.left ≡ drop c.at b
  pub within : c.at ≤ length b

-- a run that was read from b, and where the next field starts
pub record Ran (b : List ℕ) (t : Run) (c : At) : Type 0 where
  pub bytes : t.bytes ≡ part t.place b
  pub ends : t.place.start + t.place.len ≡ c.at
  pub then : On b c

-- text that lies inside b
pub record Lies (b : List ℕ) (p : Place) : Type 0 where
  pub inside : p.start + p.len ≤ length b
  pub text : utf8 (part p b) ≡ true

-- such text is shown, as the bytes that were read
pub lies_shown : (b : List ℕ) (p : Place) → Lies b p → shown b p ≡ done (part p b)
lies_shown b p l = inside b p l.inside

module _ (b : List ℕ) where
  moved : (n : ℕ) (c : At) → On b c → leb n (length c.left) ≡ true → On b (record { at = c.at + n; left = drop n c.left })
  moved n c o t =
      let e = o.left in
      let l = leb-true n (length c.left) t in
      record { left = rw (e, drop-drop); within = omega (arith, simp (e, length-drop) at l) }

  word_on : (c : At) → On b c → Post (λ (x : ℕ × At). On b x.1 × (x.1.at ≡ c.at + 4)) (word c)
  unfolding word
  word_on c o = go_on (guard_at 2 c.at (leb 4 (length c.left))) _ (λ u g. at_end (moved 4 c o (passed 2 c.at _ u g), refl))

  run_on : (c : At) → On b c → Post (λ (x : Run × At). Ran b x.0 x.1) (run c)
  unfolding run
  run_on c o =
      go_on (word c) _ (λ x e.
      let d = (of_accepted x (word_on c o) e).0 in
      go_on (guard_at 2 c.at (leb x.0 (length x.1.left))) _ (λ u g.
      at_end (record { bytes = rw d.left; ends = refl; then = moved x.0 x.1 d (passed 2 c.at _ u g) })))

  pub string_on : (c : At) → On b c → Post (λ (x : Run × At). Ran b x.0 x.1 × Lies b x.0.place) (string c)
  unfolding string
  string_on c o =
      go_on (run c) _ (λ x e.
      let r = of_accepted x (run_on c o) e in
      let w = r.then.within in
      let f = r.ends in
      go_on (guard_at 3 c.at (utf8 x.0.bytes)) _ (λ u g.
      at_end (r, record { inside = omega arith; text = rw r.bytes at (passed 3 c.at (utf8 x.0.bytes) u g) })))

  pub start_on : On b (here b 0)
  start_on = record { left = refl; within = omega arith }

-- what follows the three numbers after an unknown type's name, up to the body's end
pub record Follows (b : List ℕ) (typ rest : Place) : Type 0 where
  pub starts : rest.start ≡ typ.start + typ.len + 12
  pub ends : rest.start + rest.len ≡ length b

-- it is shown, as the bytes that stand there: all that was not read
pub rest_shown : (b : List ℕ) (typ rest : Place) → Follows b typ rest → shown b rest ≡ done (drop (typ.start + typ.len + 12) b)
rest_shown b typ rest f =
    let s = f.starts in
    let e = f.ends in
    inside b rest (omega arith) ∙ rw (take_all rest.len (drop rest.start b) (simp length-drop (omega arith)), s)

-- the places of a type, each in its body
abbrev pub Placed : List ℕ → ChannelType → Type 0
Placed b Session = Unit {0}
Placed b (X11 address port) = Lies b address
Placed b (DirectTcpip i) = Lies b i.host_to_connect × Lies b i.originator_address
Placed b (DirectStreamLocal i) = Lies b i.socket_path
Placed b (ForwardedTcpIp i) = Lies b i.host_to_connect × Lies b i.originator_address
Placed b (ForwardedStreamLocal i) = Lies b i.socket_path
Placed b AgentForward = Unit {0}
Placed b (Unknown typ rest) = Lies b typ × Follows b typ rest

abbrev is : Run → String → Bool
is t name = same t.bytes (bytes name)

module _ (b : List ℕ) where
  -- a step over a field, with what is known of it
  pub text : {B : Type 0} {P : B → Type 0} (c : At) (f : Run × At → Out B) → On b c
      → ((x : Run × At) → Ran b x.0 x.1 → Lies b x.0.place → Post P (f x)) → Post P (string c >>= f)
  text c f o h = go_on (string c) f (λ x e. let r = of_accepted x (string_on b c o) e in h x r.0 r.1)

  pub number : {B : Type 0} {P : B → Type 0} (c : At) (f : ℕ × At → Out B) → On b c
      → ((x : ℕ × At) → On b x.1 → x.1.at ≡ c.at + 4 → Post P (f x)) → Post P (word c >>= f)
  number c f o h = go_on (word c) f (λ x e. let k = of_accepted x (word_on b c o) e in h x k.0 k.1)

  exact_placed : (t : ChannelType) (c : At) → Placed b t → Post (Placed b) (exact t c)
  unfolding exact
  exact_placed t c h = go_on (end c) _ (λ u e. at_end h)

  x11_placed : (c : At) → On b c → Post (Placed b) (x11 c)
  unfolding x11
  x11_placed c o = text c _ o (λ x r l. number x.1 _ r.then (λ y o₁ a. exact_placed _ y.1 l))

  tcpip_placed : (made : TcpChannelInfo → ChannelType) (c : At) → On b c
      → ((i : TcpChannelInfo) → Lies b i.host_to_connect → Lies b i.originator_address → Placed b (made i))
      → Post (Placed b) (tcpip made c)
  unfolding tcpip
  tcpip_placed made c o h =
      text c _ o (λ x r l. number x.1 _ r.then (λ y o₁ a.
      text y.1 _ o₁ (λ z s m. number z.1 _ s.then (λ w o₂ d. exact_placed _ w.1 (h _ l m)))))

  direct_placed : (c : At) → On b c → Post (Placed b) (direct_stream_local c)
  unfolding direct_stream_local
  direct_placed c o =
      text c _ o (λ x r l. text x.1 _ r.then (λ y s m. number y.1 _ s.then (λ z o₁ a. exact_placed _ z.1 l)))

  forwarded_placed : (c : At) → On b c → Post (Placed b) (forwarded_stream_local c)
  unfolding forwarded_stream_local
  forwarded_placed c o = text c _ o (λ x r l. text x.1 _ r.then (λ y s m. exact_placed _ y.1 l))

  left_follows : (typ : Place) (c : At) → On b c → c.at ≡ typ.start + typ.len + 12 → Follows b typ (left_at c)
  left_follows typ c o a =
      let w = o.within in
      let e : length c.left ≡ length b - c.at = rw (o.left, length-drop) in
      record { starts = a; ends = omega arith }

  pub type_placed : (t : Run) (c : At) → Lies b t.place → On b c → c.at ≡ t.place.start + t.place.len + 12
      → Post (Placed b) (channel_type t c)
  unfolding channel_type openssh_type
  type_placed t c l o a =
      split (is t "session") (λ e. rw e (exact_placed Session c tt)) (λ e. rw e
      (split (is t "x11") (λ e. rw e (x11_placed c o)) (λ e. rw e
      (split (is t "direct-tcpip") (λ e. rw e (tcpip_placed DirectTcpip c o (λ i h k. (h, k)))) (λ e. rw e
      (split (is t "forwarded-tcpip") (λ e. rw e (tcpip_placed ForwardedTcpIp c o (λ i h k. (h, k)))) (λ e. rw e
      (split (is t "direct-streamlocal@openssh.com") (λ e. rw e (direct_placed c o)) (λ e. rw e
      (split (is t "forwarded-streamlocal@openssh.com") (λ e. rw e (forwarded_placed c o)) (λ e. rw e
      (split (is t "auth-agent@openssh.com") (λ e. rw e (exact_placed AgentForward c tt)) (λ e. rw e
      (at_end {a = Unknown t.place (left_at c)} (l, left_follows t.place c o a)))))))))))))))

-- Every number of an accepted record lies in its table and stands in the own list, whatever bytes were read: what is chosen
-- is one of the own rows. Assumes nothing.
use mathlib.Core.Path.{◌≡◌, refl, ap, ◌∙◌}
use mathlib.Core.Bool.{Bool, true, false, not, ◌&&◌, or-true}
use mathlib.Core.List.{List, [], ◌∷◌, ◌++◌}
use mathlib.Core.Logic.{◌⊎◌, inl, inr, ⊎_elim}
use mathlib.Core.Option.{Option, some, none}
use Prim.Native.Nat.{ℕ, ◌+◌, ◌-◌, ◌≤◌, ◌<◌}
use native.Mathlib.Omega.{arith}
use borrow.Author.Tests.{leb-true, ltb-true, eqb-true, eq-eqb, leb-false, not-true}
use lib.Dec.{leb, ltb, eqb}
use lib.ListN.{length, get_or}
use Rattle.answer.specs.Answer.{Out, refused, done, guard, pick, ◌>>=◌}
use Rattle.answer.specs.Refusal.{Refusal}
use Rattle.answer.proofs.Laws.{split, never, and_left, and_right, bind_done, un_done}
use Rattle.answer.proofs.WalkLaws.{Post, nothing, at_end, go_on, of_accepted, passed}
use Rattle.wire.specs.Fields.{At, here}
use Rattle.commas.specs.Cut.{cut, every}
use Rattle.names.specs.Tables.{names_of, first_row, need_mac}
use Rattle.names.specs.declared.Kind.{Kind}
use Rattle.names.specs.declared.Kind.TheVariants.{Kex, Key, Certificate, Cipher, Mac, Compression}
use Rattle.names.proofs.TableLaws.{count_kind}
use Rattle.choice.specs.declared.Side.{Side}
use Rattle.choice.specs.declared.Side.TheVariants.{Client, Server}
use Rattle.choice.specs.Rows.{spells_name, chosen_row}
use Rattle.choice.proofs.ChoiceLaws.{chosen_among}
use Rattle.judging.specs.Tables.{Tables, below, good_list, valid}
use Rattle.choice.specs.Choice.{kept}
use Rattle.filters.specs.Picked.{member, without}
use Rattle.preferred.specs.Own.{rows, extensions, chosen_kex, key_list_rows, strict_name, other}
use Rattle.judging.proofs.ValidLaws.{good_below, Valid, valid_parts}
use Rattle.preferred.proofs.OwnLaws.{kex_rows_lem}
use Rattle.preferred.proofs.RangeLaws.{within, keys_within}
use Rattle.picking.specs.Picking.{none_row, ruled, picked, picked_from, mac_rule}
use Rattle.picking.specs.declared.Rule.{Rule}
use Rattle.picking.specs.declared.Rule.TheVariants.{Needed, Protected, Optional}
use Rattle.stages.specs.declared.Rows.{Rows}
use Rattle.stages.specs.Stages.{last_fields, languages, compressions, macs, other_cipher, keys, read_rows}
use Rattle.negotiation.specs.declared.Names.{Names}
use Rattle.negotiation.specs.Read.{most_kex_init, read_kex}
use Rattle.negotiation.specs.Rows.{is_certificate_row, key_place, recorded, in_names}
use Rattle.negotiation.specs.Known.{Among, Fallback, Known}
use Rattle.negotiation.proofs.ReadLaws.{staged}

-- membership
every_member : (f : ℕ → Bool) (ns : List ℕ) (n : ℕ) → every f ns ≡ true → member n ns ≡ true → f n ≡ true
unfolding member
every_member f [] n h m = never (cc)
every_member f (x ∷ ns) n h m =
    split (eqb x n) (λ e. rw (eqb-true x n e) at (and_left (f x) (every f ns) h))
    (λ e. every_member f ns n (and_right (f x) (every f ns) h) (rw e at m))

member_every : (f : ℕ → Bool) (ns : List ℕ) → ((n : ℕ) → member n ns ≡ true → f n ≡ true) → every f ns ≡ true
unfolding member
member_every f [] h = refl
member_every f (x ∷ ns) h =
    rw (h x (rw (eq-eqb x x refl))) (member_every f ns (λ n m. h n (rw m (or-true (eqb x n)))))

member_kept : (f : ℕ → Bool) (ns : List ℕ) (n : ℕ) → member n (kept f ns) ≡ true → (member n ns ≡ true) × (f n ≡ true)
unfolding member kept
member_kept f [] n m = never (cc)
member_kept f (x ∷ ns) n m =
    split (f x)
    (λ k. split (eqb x n) (λ e. (rw e, rw (eqb-true x n e) at k))
    (λ e. let r = member_kept f ns n (rw (k, e) at m) in (rw r.0 (or-true (eqb x n)), r.1)))
    (λ k. let r = member_kept f ns n (rw k at m) in (rw r.0 (or-true (eqb x n)), r.1))

member_row : (k : Kind) (ns : List ℕ) (r : ℕ) → member r (rows k ns) ≡ true → member (r - first_row k) ns ≡ true
unfolding member
member_row k [] r m = never (cc)
member_row k (x ∷ ns) r m =
    split (eqb (first_row k + x) r)
    (λ e. let q = eqb-true (first_row k + x) r e in let l : x ≡ r - first_row k = omega arith in rw (eq-eqb x (r - first_row k) l))
    (λ e. rw (member_row k ns r (rw e at m)) (or-true (eqb x (r - first_row k))))

-- a row of an own list, as a number of its kind
among : (k : Kind) (ns : List ℕ) (r : ℕ) → good_list k ns ≡ true → member r (rows k ns) ≡ true → Among k ns (r - first_row k)
unfolding below
among k ns r g m =
    let n = member_row k ns r m in
    record {
      inside = ltb-true (r - first_row k) (length (names_of k)) (every_member (λ n. ltb n (length (names_of k))) ns (r - first_row k) (good_below k ns g) n);
      stands = n;
    }

-- the row that is picked
module _ (side : Side) (own : List ℕ) where
  chosen_member : (peer : List (List ℕ)) (r : ℕ) → chosen_row spells_name side own peer ≡ some r → member r own ≡ true
  chosen_member peer r e = chosen_among spells_name (λ n. member n own) side own peer r (member_every (λ n. member n own) own (λ n m. m)) e

  -- is what the rule makes of a choice
  picked_ruled : (rule : Rule) (n : ℕ) (c : At) (x : ℕ × Bool × At) → picked spells_name side rule n own c ≡ done x
      → (peer : List (List ℕ)) × (ruled rule (record { number = n; offset = c.at }) (chosen_row spells_name side own peer) ≡ done x.0)
  unfolding picked picked_from
  picked_ruled rule n c x e =
      let a = bind_done _ _ x e in
      let b = bind_done _ _ x a.2 in
      (cut a.0.0.bytes, rw (ap (λ (y : ℕ × Bool × At). y.0) (un_done b.2)) at b.1)

  needed_some : (q : Refusal) (o : Option ℕ) (r : ℕ) → ruled Needed q o ≡ done r → o ≡ some r
  unfolding ruled
  needed_some q none r h = never (cc)
  needed_some q (some x) r h = cc

  needed_member : (n : ℕ) (c : At) (x : ℕ × Bool × At) → picked spells_name side Needed n own c ≡ done x → member x.0 own ≡ true
  needed_member n c x e = let a = picked_ruled Needed n c x e in chosen_member a.0 x.0 (needed_some _ _ x.0 a.1)

  mac_some : (q : Refusal) (b : Bool) (o : Option ℕ) (r : ℕ) → ruled (pick b Protected Optional) q o ≡ done r → (o ≡ some r) ⊎ ((r ≡ none_row) × (b ≡ false))
  unfolding ruled
  mac_some q true none r h = never (cc)
  mac_some q true (some x) r h = split (eqb x none_row) (λ e. never (cc)) (λ e. let d = rw e at h in inl (cc))
  mac_some q false none r h = inr (cc, refl)
  mac_some q false (some x) r h = inl (cc)

  mac_member : (cipher : ℕ) (c : At) (x : ℕ × Bool × At) → picked spells_name side (mac_rule cipher) 13 own c ≡ done x
      → (member x.0 own ≡ true) ⊎ ((x.0 ≡ none_row) × (get_or need_mac cipher false ≡ false))
  unfolding mac_rule
  mac_member cipher c x e =
      let a = picked_ruled (mac_rule cipher) 13 c x e in
      ⊎_elim (λ s. inl (chosen_member a.0 x.0 s)) (λ f. inr f) (mac_some _ (get_or need_mac cipher false) _ x.0 a.1)

-- what holds of the rows
module _ (t : Tables) where
  abbrev MacRow : ℕ → ℕ → Type 0
  MacRow cipher mac = (member mac (rows Mac t.mac) ≡ true) ⊎ ((mac ≡ none_row) × (get_or need_mac (cipher - first_row Cipher) false ≡ false))

  record Own (k : Rows) : Type 0 where
    kex : member k.kex (chosen_kex t) ≡ true
    key : member k.key (key_list_rows t) ≡ true
    cipher : member k.cipher (rows Cipher t.cipher) ≡ true
    client_mac : MacRow k.cipher k.client_mac
    server_mac : MacRow k.cipher k.server_mac
    client_compression : member k.client_compression (rows Compression t.compression) ≡ true
    server_compression : member k.server_compression (rows Compression t.compression) ≡ true

  walk : (asked : Bool) (strict_row : ℕ) (strict_agreed : Bool) (c : At)
      → Post (λ x. Own x.0)
      (read_rows spells_name t.side (chosen_kex t) (key_list_rows t) (rows Cipher t.cipher) (rows Mac t.mac) (rows Compression t.compression) asked strict_row strict_agreed c)
  unfolding read_rows keys other_cipher macs compressions languages last_fields
  walk asked strict_row strict_agreed c =
      go_on _ _ (λ kex e₁.
      go_on _ _ (λ key e₂.
      go_on _ _ (λ cipher e₃.
      go_on _ _ (λ other _.
      go_on _ _ (λ cm e₄.
      go_on _ _ (λ sm e₅.
      go_on _ _ (λ cc e₆.
      go_on _ _ (λ sc e₇.
      go_on _ _ (λ _ _.
      go_on _ _ (λ _ _.
      go_on _ _ (λ _ _.
      go_on _ _ (λ _ _.
      go_on _ _ (λ _ _.
      at_end
      (record {
        kex = needed_member t.side (chosen_kex t) 10 c kex e₁;
        key = needed_member t.side (key_list_rows t) 11 kex.2 key e₂;
        cipher = needed_member t.side (rows Cipher t.cipher) 12 key.2 cipher e₃;
        client_mac = mac_member t.side (rows Mac t.mac) (cipher.0 - first_row Cipher) other.1 cm e₄;
        server_mac = mac_member t.side (rows Mac t.mac) (cipher.0 - first_row Cipher) cm.2 sm e₅;
        client_compression = needed_member t.side (rows Compression t.compression) 14 sm.2 cc e₆;
        server_compression = needed_member t.side (rows Compression t.compression) 14 cc.2 sc e₇;
      }))))))))))))))

  module _ (v : Valid t) (ok : valid t ≡ true) where
    -- the numbers of such rows
    kex_own : (r : ℕ) → member r (chosen_kex t) ≡ true
        → (Among Kex t.kex r) × (member r (extensions Client ++ extensions Server) ≡ false)
    unfolding chosen_kex without below
    kex_own r m =
        let a = member_kept (λ n. not (member n (extensions Client ++ extensions Server))) t.kex r (rw kex_rows_lem at m) in (
          record {
            inside = ltb-true r (length (names_of Kex)) (every_member (λ n. ltb n (length (names_of Kex))) t.kex r (good_below Kex t.kex v.kex) a.0);
            stands = a.0;
          },
          not-true _ a.1,
        )

    mac_own : (cipher mac : ℕ) → MacRow cipher mac → Among Mac t.mac (mac - first_row Mac) ⊎ Fallback (cipher - first_row Cipher) (mac - first_row Mac)
    mac_own cipher mac m =
        ⊎_elim (λ s. inl (among Mac t.mac mac v.mac s)) (λ f. inr (let e = f.0 in (omega arith, f.1))) m

    record KeyOwn (r : ℕ) : Type 0 where
      inside : key_place r < length (names_of Key)
      stands : member (first_row (pick (is_certificate_row r) Certificate Key) + key_place r) (key_list_rows t) ≡ true

    key_own : (r : ℕ) → member r (key_list_rows t) ≡ true → KeyOwn r
    unfolding within key_place
    key_own r m =
        let w = every_member (λ r. leb 13 r && ltb r 27) (key_list_rows t) r (keys_within t ok) m in
        let a = leb-true 13 r (and_left (leb 13 r) (ltb r 27) w) in
        let b = ltb-true r 27 (and_right (leb 13 r) (ltb r 27) w) in
        split (leb 20 r)
        (λ e. let h = leb-true 20 r e in let q : 20 + (r - 20) ≡ r = omega arith in let l : r - 20 < 7 = omega arith in
        record { inside = rw (e, ← count_kind Key) l; stands = rw (e, q) m })
        (λ e. let h = leb-false 20 r e in let q : 13 + (r - 13) ≡ r = omega arith in let l : r - 13 < 7 = omega arith in
        record { inside = rw (e, ← count_kind Key) l; stands = rw (e, q) m })

    known_rows : (k : Rows) (follows : Bool) → Own k → Known t (recorded k follows)
    unfolding recorded
    known_rows k follows o =
        let x = kex_own k.kex o.kex in
        let y = key_own k.key o.key in
        record {
          kex = x.0;
          no_extension = x.1;
          key_inside = y.inside;
          key_stands = y.stands;
          cipher = among Cipher t.cipher k.cipher v.cipher o.cipher;
          client_mac = mac_own k.cipher k.client_mac o.client_mac;
          server_mac = mac_own k.cipher k.server_mac o.server_mac;
          client_compression = among Compression t.compression k.client_compression v.compression o.client_compression;
          server_compression = among Compression t.compression k.server_compression v.compression o.server_compression;
        }

    in_known : (m : Out (Rows × Bool)) → Post (λ x. Own x.0) m → Post (Known t) (in_names m)
    unfolding in_names ◌>>=◌
    in_known (refused r) nothing = nothing
    in_known (done x) (at_end o) = at_end (known_rows x.0 x.1 o)

-- what is accepted passed the first tests
record Passed (t : Tables) (p : List ℕ) : Type 0 where
  tables : valid t ≡ true
  most : length p ≤ most_kex_init
  least : 17 ≤ length p

all_passed : (t : Tables) (strict_agreed : Bool) (p : List ℕ) (n : Names) → read_kex t strict_agreed p ≡ done n → Passed t p
unfolding read_kex
all_passed t strict_agreed p n e =
    let a = bind_done (guard 9 (valid t)) _ n e in
    let b = bind_done (guard 1 (leb (length p) most_kex_init)) _ n a.2 in
    let c = bind_done (guard 6 (leb 17 (length p))) _ n b.2 in
    record {
      tables = passed 9 0 (valid t) a.0 a.1;
      most = leb-true (length p) most_kex_init (passed 1 0 (leb (length p) most_kex_init) b.0 b.1);
      least = leb-true 17 (length p) (passed 6 0 (leb 17 (length p)) c.0 c.1);
    }

pub all_known : (t : Tables) (strict_agreed : Bool) (p : List ℕ) (n : Names) → read_kex t strict_agreed p ≡ done n → Known t n
all_known t strict_agreed p n e =
    let a = all_passed t strict_agreed p n e in
    of_accepted n
    (in_known t (valid_parts t a.tables) a.tables _
    (walk t (member (strict_name t.side) t.kex) (strict_name (other t.side)) strict_agreed (here p 17)))
    (staged t a.tables strict_agreed p a.most a.least ∙ e)

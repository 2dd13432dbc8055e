-- Laws of the choice: the rule over names, and how a chosen row stands for a chosen name. Assumes nothing.
use mathlib.Core.Path.{◌≡◌, refl, sym, ap, ◌∙◌}
use mathlib.Core.Bool.{Bool, true, false}
use mathlib.Core.List.{List, [], ◌∷◌}
use mathlib.Core.Option.{Option, some, none, map, or_else}
use Prim.Native.Nat.{ℕ, ◌<◌}
use lib.Dec.{ltb}
use lib.ListN.{length}
use borrow.Author.Tests.{ltb-true}
use Rattle.answer.specs.Answer.{pick}
use Rattle.answer.proofs.Laws.{split, and_left, and_right, never}
use Rattle.text.specs.Same.{same}
use Rattle.text.proofs.SameLaws.{same_self, same_equal}
use Rattle.commas.specs.Cut.{every}
use Rattle.names.specs.Tables.{all_names}
use Rattle.std.specs.Prelude.{Option as Maybe}
use Rattle.names.proofs.RowLaws.{entry_in}
use Rattle.names.proofs.UniqueLaws.{found_unique}
use Rattle.names.proofs.ColumnLaws.{flat, starts, lengths, row_name_lem}
use Rattle.names.proofs.TableLaws.{row_count}
use Rattle.choice.specs.declared.Side.{Side}
use Rattle.choice.specs.declared.Side.TheVariants.{Client, Server}
use Rattle.choice.specs.Choice.{first, listed, kept, first_shared, chosen, both_first}
use Rattle.choice.specs.Rows.{offered, row_for, own_first, peer_first, chosen_row, first_both, spells_in, spells_name, row_spelled, spelled_rows, chose}
use Rattle.choice.proofs.FirstLaws.{first_among, first_kept, first_map, first_same}

-- the two ends choose one name
pub ends_agree : (client server : List (List ℕ)) → chosen Client client server ≡ chosen Server server client
unfolding chosen
ends_agree client server = refl

-- what holds of every name of a list holds of each that is listed
pub every_listed : (f : List ℕ → Bool) (names : List (List ℕ)) (n : List ℕ) → every f names ≡ true → listed n names ≡ true → f n ≡ true
unfolding listed
every_listed f [] n h l = cc
every_listed f (m ∷ names) n h l =
    split (same m n) (λ e. rw (same_equal m n e) at (and_left (f m) (every f names) h))
    (λ e. every_listed f names n (and_right (f m) (every f names) h) (rw e at l))

-- a name that is kept is listed as before
pub listed_kept : (f : List ℕ → Bool) (names : List (List ℕ)) (n : List ℕ) → f n ≡ true → listed n (kept f names) ≡ listed n names
unfolding listed kept
listed_kept f [] n h = refl
listed_kept f (m ∷ names) n h =
    split (same m n) (λ e. let k : f m ≡ true = rw (same_equal m n e) h in rw (k, e))
    (λ e. split (f m) (λ k. rw (k, e) (listed_kept f names n h)) (λ k. rw (k, e) (listed_kept f names n h)))

module _ (f : List ℕ → Bool) (client server : List (List ℕ)) where
  -- dropping from the client's list names that the server does not have changes nothing
  pub client_kept : every f server ≡ true → first_shared (kept f client) server ≡ first_shared client server
  unfolding first_shared
  client_kept h = first_kept listed server f (λ n l. every_listed f server n h l) client

  -- dropping from the server's list names that the client does not have changes nothing
  pub server_kept : every f client ≡ true → first_shared client (kept f server) ≡ first_shared client server
  unfolding first_shared
  server_kept h = first_same listed listed (kept f server) server f (λ n k. listed_kept f server n k) client h

-- "both first": the two lists start with one name, and at either end that is the choice
pub record Both (side : Side) (own peer : List (List ℕ)) : Type 0 where
  pub name : List ℕ
  pub own_rest : List (List ℕ)
  pub peer_rest : List (List ℕ)
  pub own_starts : own ≡ name ∷ own_rest
  pub peer_starts : peer ≡ name ∷ peer_rest
  pub is_chosen : chosen side own peer ≡ some name

starts_chosen : (side : Side) (n : List ℕ) (own peer : List (List ℕ)) → chosen side (n ∷ own) (n ∷ peer) ≡ some n
unfolding chosen first_shared first listed
starts_chosen Client n own peer = rw (same_self n)
starts_chosen Server n own peer = rw (same_self n)

-- what both first says is so
pub both_is : (side : Side) (own peer : List (List ℕ)) → both_first own peer ≡ true → Both side own peer
unfolding both_first
both_is side [] peer h = never (cc)
both_is side (a ∷ own) [] h = never (cc)
both_is side (a ∷ own) (b ∷ peer) h =
    let e = same_equal a b h in
    rw e (record { name = b; own_rest = own; peer_rest = peer; own_starts = refl; peer_starts = refl; is_chosen = starts_chosen side b own peer })

-- no two answers have one meaning
pub chose_unique : (a b : Maybe ℕ) → chose a ≡ chose b → a ≡ b
chose_unique a b e = found_unique a b e

either : {G : Type 0} (o q : Option ℕ) (r : ℕ) → or_else o q ≡ some r → (o ≡ some r → G) → (q ≡ some r → G) → G
unfolding or_else
either none q r e f g = g e
either (some s) q r e f g = f e

-- rows, over any test of what a row spells
module _ (spells : ℕ → List ℕ → Bool) where
  among : (f : ℕ → Bool) (own : List ℕ) (r : ℕ) → every f own ≡ true → (peer : List (List ℕ)) → peer_first spells own peer ≡ some r → f r ≡ true
  unfolding peer_first row_for
  among f own r h [] e = cc
  among f own r h (name ∷ peer) e =
      either (first spells own name) (peer_first spells own peer) r e (first_among spells name f own r h) (among f own r h peer)

  -- what holds of all own rows holds of the chosen one, which is one of them
  pub chosen_among : (f : ℕ → Bool) (side : Side) (own : List ℕ) (peer : List (List ℕ)) (r : ℕ)
      → every f own ≡ true → chosen_row spells side own peer ≡ some r → f r ≡ true
  unfolding chosen_row own_first
  chosen_among f Client own peer r h e = first_among (offered spells) peer f own r h e
  chosen_among f Server own peer r h e = among f own r h peer e

  -- an own list of one row: the choice says whether the row's name is offered
  pub chosen_one : (side : Side) (r : ℕ) (peer : List (List ℕ)) → chosen_row spells side (r ∷ []) peer ≡ pick (offered spells r peer) (some r) none
  unfolding chosen_row own_first peer_first row_for first offered or_else
  chosen_one Client r peer = refl
  chosen_one Server r [] = refl
  chosen_one Server r (name ∷ peer) = split (spells r name) (λ e. rw e) (λ e. rw e (chosen_one Server r peer))

module _ (t u : ℕ → List ℕ → Bool) (agree : (r : ℕ) (name : List ℕ) → t r name ≡ u r name) where
  abbrev any : ℕ → Bool
  any r = true

  every_any : (own : List ℕ) → every any own ≡ true
  every_any [] = refl
  every_any (r ∷ own) = every_any own

  offered_alike : (r : ℕ) (peer : List (List ℕ)) → offered t r peer ≡ offered u r peer
  unfolding offered
  offered_alike r [] = refl
  offered_alike r (name ∷ peer) = rw (agree r name, offered_alike r peer)

  -- two tests that agree choose alike
  pub chosen_alike : (side : Side) (own : List ℕ) (peer : List (List ℕ)) → chosen_row t side own peer ≡ chosen_row u side own peer
  unfolding chosen_row own_first peer_first row_for
  chosen_alike Client own peer =
      first_same (offered t) (offered u) peer peer any (λ r h. offered_alike r peer) own (every_any own)
  chosen_alike Server own [] = refl
  chosen_alike Server own (name ∷ peer) =
      rw (first_same t u name name any (λ r h. agree r name) own (every_any own), chosen_alike Server own peer)

  -- and they say alike whether both are first
  pub both_alike : (own : List ℕ) (peer : List (List ℕ)) → first_both t own peer ≡ first_both u own peer
  unfolding first_both
  both_alike [] peer = refl
  both_alike (r ∷ own) [] = refl
  both_alike (r ∷ own) (name ∷ peer) = agree r name

-- the columns of the name table, which the constants of the code are
abbrev pub table_spells : ℕ → List ℕ → Bool
table_spells = spells_in (flat all_names) (starts 0 all_names) (lengths all_names)

-- on the columns of the name table a row spells what the table says
pub table_spells_lem : (r : ℕ) (name : List ℕ) → table_spells r name ≡ spells_name r name
table_spells_lem r name = rw (row_name_lem all_names r)

-- so the choice over them is the choice over the name table
pub table_chosen : (side : Side) (own : List ℕ) (peer : List (List ℕ)) → chosen_row table_spells side own peer ≡ chosen_row spells_name side own peer
table_chosen side own peer = chosen_alike table_spells spells_name table_spells_lem side own peer

-- and so is both first
pub table_both : (own : List ℕ) (peer : List (List ℕ)) → first_both table_spells own peer ≡ first_both spells_name own peer
table_both own peer = both_alike table_spells spells_name table_spells_lem own peer

-- a row of the name table
abbrev pub in_table : ℕ → Bool
in_table r = ltb r 44

-- it spells the name that stands there
pub row_spells : (r : ℕ) (name : List ℕ) → in_table r ≡ true → spells_name r name ≡ same (row_spelled r) name
unfolding row_spelled
row_spells r name h =
    let l : r < length all_names = rw row_count (ltb-true r 44 h) in
    rw (entry_in [] all_names r l)

same_swap : (a b : List ℕ) → same a b ≡ same b a
same_swap a b =
    split (same a b) (λ e. rw (same_equal a b e))
    (λ e. split (same b a) (λ f. never (cc (same_self b, same_equal b a f))) (λ f. e ∙ sym f))

-- a row is offered just where its name is listed
pub offered_listed : (peer : List (List ℕ)) (r : ℕ) → in_table r ≡ true → offered spells_name r peer ≡ listed (row_spelled r) peer
unfolding offered listed
offered_listed [] r h = refl
offered_listed (name ∷ peer) r h = rw (row_spells r name h, same_swap (row_spelled r) name, offered_listed peer r h)

-- the row for a name spells it
row_named : (name : List ℕ) (own : List ℕ) → every in_table own ≡ true
    → map row_spelled (row_for spells_name own name) ≡ pick (listed name (spelled_rows own)) (some name) none
unfolding row_for first listed
row_named name [] h = refl
row_named name (r ∷ own) h =
    split (same (row_spelled r) name) (λ e. rw (row_spells r name (and_left (in_table r) (every in_table own) h), e, same_equal (row_spelled r) name e))
    (λ e. rw (row_spells r name (and_left (in_table r) (every in_table own) h), e) (row_named name own (and_right (in_table r) (every in_table own) h)))

-- the chosen row's name is the chosen name, and no row is chosen just where no name is
pub chosen_named : (side : Side) (own : List ℕ) (peer : List (List ℕ)) → every in_table own ≡ true
    → map row_spelled (chosen_row spells_name side own peer) ≡ chosen side (spelled_rows own) peer
unfolding chosen_row own_first peer_first chosen first_shared first or_else
chosen_named Client own peer h = first_map row_spelled (offered spells_name) listed in_table peer peer (offered_listed peer) own h
chosen_named Server own [] h = refl
chosen_named Server own (name ∷ peer) h =
    joined (row_for spells_name own name) (peer_first spells_name own peer) (listed name (spelled_rows own)) (row_named name own h)
    ∙ ap (pick (listed name (spelled_rows own)) (some name)) (chosen_named Server own peer h)
  where
    joined : (o q : Option ℕ) (b : Bool) → map row_spelled o ≡ pick b (some name) none
        → map row_spelled (or_else o q) ≡ pick b (some name) (map row_spelled q)
    joined (some r) q true e = e
    joined (some r) q false e = cc
    joined none q true e = cc
    joined none q false e = refl

-- both first, by rows and by names
pub both_named : (own : List ℕ) (peer : List (List ℕ)) → every in_table own ≡ true → first_both spells_name own peer ≡ both_first (spelled_rows own) peer
unfolding first_both both_first
both_named [] peer h = refl
both_named (r ∷ own) [] h = refl
both_named (r ∷ own) (name ∷ peer) h = row_spells r name (and_left (in_table r) (every in_table own) h)

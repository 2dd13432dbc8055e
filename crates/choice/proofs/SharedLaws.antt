-- The choice in words: the client's first name that the server lists, or no shared name. Assumes nothing.
use mathlib.Core.Path.{◌≡◌, refl, sym, ap, ◌∙◌}
use mathlib.Core.Bool.{true, not, or-true, true≢false}
use mathlib.Core.List.{List, [], ◌∷◌, ◌++◌}
use mathlib.Core.Option.{Option, some, none}
use Prim.Native.Nat.{ℕ}
use borrow.Author.Tests.{not-true}
use Rattle.answer.proofs.Laws.{split, never}
use Rattle.text.specs.Same.{same}
use Rattle.text.proofs.SameLaws.{same_self}
use Rattle.choice.specs.declared.Side.{Side}
use Rattle.choice.specs.declared.Side.TheVariants.{Client, Server}
use Rattle.choice.specs.Choice.{first as first_of, listed, first_shared, First, NoneShared, chosen}
use Rattle.choice.proofs.FirstLaws.{first_none, none_first}
use Rattle.choice.proofs.ChoiceLaws.{every_listed}

listed_there : (name : List ℕ) (before after : List (List ℕ)) → listed name (before ++ name ∷ after) ≡ true
unfolding listed
listed_there name [] after = rw (same_self name)
listed_there name (b ∷ before) after = rw (listed_there name before after) (or-true (same b name))

module _ (server : List (List ℕ)) where
  -- the choice is the client's first name that the server lists
  pub shared_is : (client : List (List ℕ)) (name : List ℕ) → first_shared client server ≡ some name → First client server name
  unfolding first_shared first_of
  shared_is [] name e = never (cc)
  shared_is (c ∷ client) name e =
      split (listed c server)
      (λ t. let q : c ≡ name = let h = rw t at e in cc in
      record { before = []; after = client; stands = rw q; not_before = refl; lists = rw q at t })
      (λ t. let f = shared_is client name (rw t at e) in
      record {
        before = c ∷ f.before;
        after = f.after;
        stands = ap (λ (l : List (List ℕ)). c ∷ l) f.stands;
        not_before = rw t f.not_before;
        lists = f.lists;
      })

  past : (before rest : List (List ℕ)) → NoneShared before server → first_shared (before ++ rest) server ≡ first_shared rest server
  unfolding first_shared first_of
  past [] rest h = refl
  past (c ∷ before) rest h =
      split (listed c server) (λ t. let q = rw t at h in cc) (λ t. rw t (past before rest (rw t at h)))

  starts : (name : List ℕ) (after : List (List ℕ)) → listed name server ≡ true → first_shared (name ∷ after) server ≡ some name
  unfolding first_shared first_of
  starts name after h = rw h

module _ (client server : List (List ℕ)) where
  -- and whatever is that is the choice
  pub is_shared : (name : List ℕ) → First client server name → first_shared client server ≡ some name
  is_shared name f = rw f.stands (past server f.before (name ∷ f.after) f.not_before ∙ starts server name f.after f.lists)

  -- there is no choice only where no name is shared
  pub none_shared : first_shared client server ≡ none → NoneShared client server
  unfolding first_shared
  none_shared e = first_none listed server client e

  -- and there is none wherever that is so
  pub shared_none : NoneShared client server → first_shared client server ≡ none
  unfolding first_shared
  shared_none h = none_first listed server client h

  -- there is one such name
  pub first_one : (a b : List ℕ) → First client server a → First client server b → a ≡ b
  first_one a b f g = cc (is_shared a f, is_shared b g)

  pub first_client : (name : List ℕ) → First client server name → listed name client ≡ true
  first_client name f = rw f.stands (listed_there name f.before f.after)

  -- and none where no name is shared
  pub not_both_shared : (name : List ℕ) → First client server name → NoneShared client server → ⊥
  not_both_shared name f u =
      let n = not-true (listed name server) (every_listed (λ c. not (listed c server)) client name u (first_client name f)) in
      true≢false (sym f.lists ∙ n)

  -- what the rule gives, with what it then says
  pub data Judged : Option (List ℕ) → Type 0 where
    nothing : NoneShared client server → Judged none
    first : {name : List ℕ} → First client server name → Judged (some name)

  pub judge : Judged (first_shared client server)
  judge = go (first_shared client server) refl
    where
      go : (o : Option (List ℕ)) → first_shared client server ≡ o → Judged o
      go none e = nothing (none_shared e)
      go (some name) e = first (shared_is server client name e)

-- at either end, what is chosen stands in the own list
pub chosen_own : (side : Side) (own peer : List (List ℕ)) (name : List ℕ) → chosen side own peer ≡ some name → listed name own ≡ true
unfolding chosen
chosen_own Client own peer name h = first_client own peer name (shared_is peer own name h)
chosen_own Server own peer name h = (shared_is own peer name h).lists

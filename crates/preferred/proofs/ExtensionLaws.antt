-- The extension names: what they spell, and how the kex list that is written differs from the one that is chosen from.
-- Assumes nothing.
use mathlib.Core.Path.{◌≡◌, refl, sym, ap, ◌∙◌}
use mathlib.Core.Bool.{◌||◌, or_comm}
use mathlib.Core.List.{List, [], ◌∷◌, ◌++◌, map}
use Prim.Native.Nat.{ℕ}
use lib.ListN.{get_or}
use Rattle.answer.proofs.Laws.{split}
use Rattle.names.specs.declared.Kind.TheVariants.{Kex}
use Rattle.names.specs.Tables.{bytes, kex_names, names_of}
use Rattle.choice.specs.declared.Side.{Side}
use Rattle.choice.specs.declared.Side.TheVariants.{Client, Server}
use Rattle.judging.specs.Tables.{Tables}
use Rattle.choice.specs.Choice.{kept}
use Rattle.filters.specs.Picked.{member, without}
use Rattle.preferred.specs.Own.{extensions, strict_name, other, written_kex, chosen_kex}
use Rattle.filters.proofs.RoomLaws.{member_append}
use Rattle.preferred.proofs.OwnLaws.{kex_rows_lem}

abbrev kex_name : ℕ → List ℕ
kex_name n = get_or (names_of Kex) n []

-- the numbers of the definitions are those of the names that document 01 says
pub client_names : map kex_name (extensions Client) ≡ bytes "ext-info-c" ∷ bytes "kex-strict-c-v00@openssh.com" ∷ []
unfolding names_of kex_names
client_names = refl

pub server_names : map kex_name (extensions Server) ≡ bytes "ext-info-s" ∷ bytes "kex-strict-s-v00@openssh.com" ∷ []
unfolding names_of kex_names
server_names = refl

pub client_strict_lem : kex_name (strict_name Client) ≡ bytes "kex-strict-c-v00@openssh.com"
unfolding names_of kex_names
client_strict_lem = refl

pub server_strict_lem : kex_name (strict_name Server) ≡ bytes "kex-strict-s-v00@openssh.com"
unfolding names_of kex_names
server_strict_lem = refl

-- dropping some, then others, is dropping both
drop_twice : (xs ys zs : List ℕ) → ((n : ℕ) → member n zs ≡ (member n xs || member n ys)) → (ns : List ℕ) → without ys (without xs ns) ≡ without zs ns
unfolding without kept
drop_twice xs ys zs e [] = refl
drop_twice xs ys zs e (n ∷ ns) =
    let h = drop_twice xs ys zs e ns in
    split (member n xs)
    (λ a. rw (e n, a) h)
    (λ a. split (member n ys) (λ b. rw (e n, a, b) h) (λ b. rw (e n, a, b, h)))

both_sides : (side : Side) (n : ℕ) → member n (extensions Client ++ extensions Server) ≡ (member n (extensions (other side)) || member n (extensions side))
both_sides Client n = member_append n (extensions Client) (extensions Server) ∙ or_comm (member n (extensions Client)) (member n (extensions Server))
both_sides Server n = member_append n (extensions Client) (extensions Server)

-- what is chosen from is what is written without the own side's extension names
pub chosen_of_written : (t : Tables) → chosen_kex t ≡ without (extensions t.side) (written_kex t)
unfolding written_kex chosen_kex
chosen_of_written t =
    kex_rows_lem (without (extensions Client ++ extensions Server) t.kex)
    ∙ sym (drop_twice (extensions (other t.side)) (extensions t.side) (extensions Client ++ extensions Server) (both_sides t.side) t.kex)
    ∙ ap (without (extensions t.side)) (sym (kex_rows_lem (without (extensions (other t.side)) t.kex)))

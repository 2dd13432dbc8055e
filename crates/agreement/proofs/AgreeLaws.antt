-- Two ends read each other's KEXINIT and come to one answer. Assumes nothing.
use mathlib.Core.Path.{◌≡◌, refl, ap, ap₂, ◌∙◌}
use mathlib.Core.Bool.{Bool, true, ◌&&◌, ◌||◌, and_comm}
use mathlib.Core.List.{List}
use Prim.Native.Nat.{ℕ}
use lib.ListN.{length}
use Rattle.answer.specs.Answer.{placed}
use Rattle.names.specs.Tables.{all_names, kex_names}
use Rattle.names.specs.declared.Kind.TheVariants.{Kex}
use Rattle.choice.specs.declared.Side.{Side}
use Rattle.choice.specs.declared.Side.TheVariants.{Client, Server}
use Rattle.choice.specs.Choice.{listed, chosen}
use Rattle.choice.specs.Rows.{row_spelled}
use Rattle.judging.specs.Tables.{Tables, valid, good_list}
use Rattle.judging.proofs.ValidLaws.{valid_parts}
use Rattle.filters.specs.Picked.{member}
use Rattle.preferred.specs.Own.{strict_name, other}
use Rattle.negotiation.specs.Written.{kex_list, kex_init}
use Rattle.negotiation.specs.Read.{strict, read_kex}
use Rattle.agreement.specs.Both.{settling, client_strict, server_strict, shared, both_strict, both}
use Rattle.agreement.proofs.WrittenLaws.{chosen_all, reads}
use Rattle.agreement.proofs.ApartLaws.{apart_server, apart_client, apart_kex, strict_client, strict_server}

-- the names of rows 11 and 12
strict_names : (row_spelled 11 ≡ client_strict) × (row_spelled 12 ≡ server_strict)
unfolding row_spelled all_names kex_names
strict_names = (refl, refl)

module _ (tc ts : Tables) (b : Bool) (c : tc.side ≡ Client) (s : ts.side ≡ Server) (cv : valid tc ≡ true) (sv : valid ts ≡ true) where
  abbrev strict_at : Side → Tables → List (List ℕ) → Bool
  strict_at side t peer = (member (strict_name side) t.kex && listed (row_spelled (strict_name (other side))) peer) || b

  gc : good_list Kex tc.kex ≡ true
  gc = (valid_parts tc cv).kex

  gs : good_list Kex ts.kex ≡ true
  gs = (valid_parts ts sv).kex

  client_choice : chosen_all tc.side tc ts ≡ shared tc ts
  unfolding chosen
  client_choice =
      ap (λ (x : Side). chosen_all x tc ts) c
      ∙ rw (← (apart_kex tc gc), apart_server (kex_list tc) (kex_list ts))

  server_choice : chosen_all ts.side ts tc ≡ shared tc ts
  unfolding chosen
  server_choice =
      ap (λ (x : Side). chosen_all x ts tc) s
      ∙ rw (← (apart_kex ts gs), apart_client (kex_list tc) (kex_list ts))

  client_strict_lem : strict tc b (kex_list ts) ≡ both_strict tc ts b
  unfolding strict
  client_strict_lem =
      ap (λ (x : Side). strict_at x tc (kex_list ts)) c
      ∙ rw (strict_names.1, ← (strict_client tc gc c))

  server_strict_lem : strict ts b (kex_list tc) ≡ both_strict tc ts b
  unfolding strict
  server_strict_lem =
      ap (λ (x : Side). strict_at x ts (kex_list tc)) s
      ∙ rw (strict_names.0, ← (strict_server ts gs s)) (ap (λ x. x || b) (and_comm (listed server_strict (kex_list ts)) (listed client_strict (kex_list tc))))

  -- each reads the other's, and both come to the one block over what they share: equal values, or refusals of equal number
  pub agree : (client_cookie server_cookie : List ℕ) → length client_cookie ≡ 16 → length server_cookie ≡ 16
      → (placed 0 (read_kex tc b (kex_init ts server_cookie)) ≡ both tc ts b) × (placed 0 (read_kex ts b (kex_init tc client_cookie)) ≡ both tc ts b)
  unfolding both
  agree client_cookie server_cookie k l = (
    reads tc ts b server_cookie cv sv l ∙ ap₂ settling client_choice client_strict_lem,
    reads ts tc b client_cookie sv cv k ∙ ap₂ settling server_choice server_strict_lem,
  )

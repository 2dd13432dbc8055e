-- Demand 3. Assumes nothing.
use mathlib.Core.Path.{◌≡◌, sym, ◌∙◌}
use mathlib.Core.Bool.{Bool}
use mathlib.Core.List.{List}
use mathlib.Core.Logic.{◌↔◌}
use Prim.Native.Nat.{ℕ}
use Rattle.answer.specs.Answer.{Out, placed}
use Rattle.answer.proofs.Laws.{not_both}
use Rattle.judging.specs.Tables.{Tables}
use Rattle.negotiation.specs.declared.Names.{Names}
use Rattle.negotiation.specs.Written.{key_list, cipher_list, compression_list, kex_init}
use Rattle.negotiation.specs.Read.{read_kex}
use Rattle.negotiation.proofs.KexInitLaws.{write_valid}
use Rattle.agreement.specs.Both.{kex_offer, both}
use Rattle.agreement.specs.Ended.{Accepted, Lacks, Ended, both_accept, both_refuse, Refuses}
use Rattle.agreement.specs.Demand.{Ends, Agreed, Demand3}
use Rattle.judging.proofs.ValidLaws.{valid_parts}
use Rattle.choice.proofs.SharedLaws.{not_both_shared}
use Rattle.agreement.proofs.PlacedLaws.{was_done, was_refused}
use Rattle.agreement.proofs.AgreeLaws.{agree}
use Rattle.agreement.proofs.EndedLaws.{Came, came_done, came_refused, both_come, not_mac}
use Rattle.agreement.proofs.ProtectedLaws.{never_unprotected}

-- what is accepted lacks nothing
accepted_lacks : (tc ts : Tables) (b : Bool) (n : Names) → Accepted tc ts b n → (m : ℕ) → Lacks tc ts m → ⊥
accepted_lacks tc ts b n a m (Lacks.kex u) = not_both_shared (kex_offer tc) (kex_offer ts) a.names.kex a.kex_first u
accepted_lacks tc ts b n a m (Lacks.key u) = not_both_shared (key_list tc) (key_list ts) a.names.key a.key_first u
accepted_lacks tc ts b n a m (Lacks.cipher u) = not_both_shared (cipher_list tc) (cipher_list ts) a.names.cipher a.cipher_first u
accepted_lacks tc ts b n a m (Lacks.mac d f e u) = not_mac tc ts a.names.cipher a.names.client_mac a.cipher_first a.client_mac_of d f e u
accepted_lacks tc ts b n a m (Lacks.compression u) =
    not_both_shared (compression_list tc) (compression_list ts) a.names.client_compression a.client_compression_first u

-- so a refusal is exactly that something is lacking
came_exactly : (tc ts : Tables) (b : Bool) {o : Out Names} → Came tc ts b o → (x : Out Names) → placed 0 x ≡ o → Refuses x ↔ ((n : ℕ) × Lacks tc ts n)
came_exactly tc ts b (came_done {n = n} a) x p =
    (λ r. absurd (not_both (sym (was_done 0 x n p) ∙ r.1)), λ l. absurd (accepted_lacks tc ts b n a l.0 l.1))
came_exactly tc ts b (came_refused {r = r} u) x p = (λ _. (r.number, u.lacks), λ _. let w = was_refused 0 x r p in (_, w.1))

came_ended : (tc ts : Tables) (b : Bool) {o : Out Names} → Came tc ts b o → (x y : Out Names) → placed 0 x ≡ o → placed 0 y ≡ o → Ended tc ts b x y
came_ended tc ts b (came_done {n = n} a) x y p q = both_accept n (was_done 0 x n p) (was_done 0 y n q) a
came_ended tc ts b (came_refused {r = r} u) x y p q =
    let i = was_refused 0 x r p in
    let j = was_refused 0 y r q in
    both_refuse r.number i.0 j.0 i.1 j.1 u

module _ (tc ts : Tables) (kc ks : List ℕ) (e : Ends tc ts kc ks) (b : Bool) where
  come : Came tc ts b (both tc ts b)
  come = both_come tc ts b (valid_parts tc e.client_valid) e.one_protects

  one : (placed 0 (read_kex tc b (kex_init ts ks)) ≡ both tc ts b) × (placed 0 (read_kex ts b (kex_init tc kc)) ≡ both tc ts b)
  one = agree tc ts b e.is_client e.is_server e.client_valid e.server_valid kc ks e.client_cookie16 e.server_cookie16

  pub ended : Ended tc ts b (read_kex tc b (kex_init ts ks)) (read_kex ts b (kex_init tc kc))
  ended = came_ended tc ts b come _ _ one.0 one.1

  pub exactly_client : Refuses (read_kex tc b (kex_init ts ks)) ↔ ((n : ℕ) × Lacks tc ts n)
  exactly_client = came_exactly tc ts b come _ one.0

  pub exactly_server : Refuses (read_kex ts b (kex_init tc kc)) ↔ ((n : ℕ) × Lacks tc ts n)
  exactly_server = came_exactly tc ts b come _ one.1

  pub agreed : Agreed tc ts kc ks b
  agreed =
      record {
        client_sends = kex_init tc kc;
        server_sends = kex_init ts ks;
        client_writes = write_valid tc kc e.client_valid e.client_cookie16;
        server_writes = write_valid ts ks e.server_valid e.server_cookie16;
        ended = ended;
        client_exactly = exactly_client;
        server_exactly = exactly_server;
      }

pub demand3 : Demand3
demand3 = record { agreed = agreed; never_unprotected = never_unprotected }

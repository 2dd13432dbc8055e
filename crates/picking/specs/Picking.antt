-- One list and the choice from it as the code goes through them, by rows of a table of names. No promise of the layers
-- above cites this: there it is proved equal to what document 01 says by names (crates/negotiation/proofs/ReadLaws.antt).
use Rattle.std.specs.Prelude.{Bool, false, ◌&&◌, List, ℕ, leb, eqb, get_or, Result}
use Rattle.std.proofs.Math.Option.{Option, some, none}
use Rattle.answer.specs.declared.Refusal.{Refusal as Answered}
use Rattle.answer.specs.Answer.{Out, refused, done, outcome, pick, ◌>>=◌}
use Rattle.answer.specs.Refusal.{Refusal}
use Rattle.wire.specs.Fields.{At, Run, here, run}
use Rattle.commas.specs.Cut.{cut}
use Rattle.namelist.specs.Judged.{name_list}
use Rattle.names.specs.Tables.{first_row, need_mac}
use Rattle.names.specs.declared.Kind.TheVariants.{Mac}
use Rattle.choice.specs.declared.Side.{Side}
use Rattle.choice.specs.Rows.{offered, chosen_row, first_both}
use Rattle.picking.specs.declared.Rule.{Rule}
use Rattle.picking.specs.declared.Rule.TheVariants.{Needed, Protected, Optional}
use Rattle.picking.specs.declared.Picked.{Picked}

-- the row of the MAC `none`, the first of its kind
abbrev pub none_row : ℕ
none_row = first_row Mac

-- a choice under a rule: a shared name is needed, else q; needed, and not `none`; or its lack is `none`
unfoldable pub ruled : Rule → Refusal → Option ℕ → Out ℕ
ruled Needed q none = refused q
ruled Needed q (some r) = done r
ruled Protected q none = refused q
ruled Protected q (some r) = pick (eqb r none_row) (refused q) (done r)
ruled Optional q none = done none_row
ruled Optional q (some r) = done r

-- what the MAC choices under a cipher are ruled by
unfoldable pub mac_rule : ℕ → Rule
mac_rule cipher = pick (get_or need_mac cipher false) Protected Optional

-- a guess is about kex and key, 10 and 11, alone
abbrev pub guessed : ℕ → Bool
guessed n = leb n 11

module _ (spells : ℕ → List ℕ → Bool) where
  -- the choice from a list's bytes: the row, and whether it is both first
  unfoldable pub picked_from : {A : Type 0} → Side → Rule → Refusal → List ℕ → List ℕ → A → Out (ℕ × Bool × A)
  picked_from side rule q own list d = do
    r ← ruled rule q (chosen_row spells side own (cut list))
    done (r, guessed q.number && first_both spells own (cut list), d)

  -- one list and the choice from it, which is refused where the list stands, and what is left
  unfoldable pub picked : Side → Rule → ℕ → List ℕ → At → Out (ℕ × Bool × At)
  picked side rule n own c = do
    (t, d) ← name_list c
    picked_from side rule (record { number = n; offset = c.at }) own t.bytes d

  -- a row's name stands in the list at c
  abbrev pub stands_among : ℕ → Out (Run × At) → Bool
  stands_among r (refused q) = false
  stands_among r (done x) = offered spells r (cut x.0.bytes)

  unfoldable pub stands_in : ℕ → At → Bool
  stands_in r c = stands_among r (run c)

-- what a picked row means, with what is left of s
abbrev pub row_read : List ℕ → Picked → ℕ × Bool × At
row_read s p = (p.row, p.first, here s p.next.at)

abbrev pub picked_of : List ℕ → Result Picked Answered → Out (ℕ × Bool × At)
picked_of s r = outcome (row_read s) r

-- what a choice under a rule answers means
abbrev pub ruling : Result ℕ Answered → Out ℕ
ruling r = outcome (λ n. n) r

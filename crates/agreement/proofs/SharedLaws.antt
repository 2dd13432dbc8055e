-- What it says that a category is settled. Assumes nothing.
use mathlib.Core.Path.{◌≡◌, refl}
use mathlib.Core.Bool.{◌&&◌}
use mathlib.Core.List.{List}
use mathlib.Core.Option.{Option, some, none}
use Prim.Native.Nat.{ℕ}
use Rattle.answer.specs.Answer.{done, placed}
use Rattle.answer.proofs.Laws.{split}
use Rattle.text.specs.Same.{same}
use Rattle.negotiation.specs.Read.{settle, settle_mac, needs_mac, no_mac}

pub settle_some : (n i : ℕ) (o : Option (List ℕ)) (name : List ℕ) → settle n i o ≡ done name → o ≡ some name
unfolding settle
settle_some n i none name h = cc
settle_some n i (some x) name h = cc

-- offsets apart, it is one answer wherever the list stands
pub settle_placed : (n i : ℕ) (o : Option (List ℕ)) → placed 0 (settle n i o) ≡ settle n 0 o
unfolding settle
settle_placed n i none = refl
settle_placed n i (some x) = refl

pub mac_placed : (cipher : List ℕ) (i : ℕ) (o : Option (List ℕ)) → placed 0 (settle_mac cipher i o) ≡ settle_mac cipher 0 o
unfolding settle_mac
mac_placed cipher i none = split (needs_mac cipher) (λ e. rw e) (λ e. rw e)
mac_placed cipher i (some x) = split (needs_mac cipher && same x no_mac) (λ e. rw e) (λ e. rw e)

-- Laws of the rest of a body: one for each answer that the code gives. Assumes nothing.
use mathlib.Core.Path.{◌≡◌, refl}
use Rattle.wire.specs.declared.place.Place.{Place}
use Rattle.layouts.specs.declared.ChannelType.{ChannelType}
use Rattle.layouts.specs.declared.ChannelType.TheVariants.{Session, X11, DirectTcpip, DirectStreamLocal, ForwardedTcpIp, ForwardedStreamLocal, AgentForward, Unknown}
use Rattle.channels.specs.Open.{rest_of}

-- of a type that is not the unknown one, as the last arm of a match says it
pub rest_of_known : (t : ChannelType) → ((p rest : Place) → t ≡ Unknown p rest → ⊥) → ◌≡◌ {A = Place} (record { start = 0; len = 0 }) (rest_of t)
rest_of_known Session k = refl
rest_of_known (X11 address port) k = refl
rest_of_known (DirectTcpip info) k = refl
rest_of_known (DirectStreamLocal info) k = refl
rest_of_known (ForwardedTcpIp info) k = refl
rest_of_known (ForwardedStreamLocal info) k = refl
rest_of_known AgentForward k = refl
rest_of_known (Unknown typ rest) k = absurd (k typ rest refl)

pub unknown_rest : (t : ChannelType) (p rest : Place) → t ≡ Unknown p rest → rest ≡ rest_of t
unknown_rest t p rest e = rw e

pub ruleset rest_laws = (rest_of_known, unknown_rest)

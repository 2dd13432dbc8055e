-- The rows on document 02's No. 6, by computation: `none_wrong_offsets`, below. Assumes nothing.
use mathlib.Core.Path.{◌≡◌}
use mathlib.Core.List.{[], ◌++◌}
use Rattle.replies.specs.Confirmation.{read_confirmation}
use Rattle.layouts.specs.Types.{x11, tcpip, direct_stream_local, forwarded_stream_local, openssh_type}
use Rattle.tried.specs.Row.{wrong}
use Rattle.tried.specs.OffsetRows.{cut_front_rows, cut_cipher_rows, cut_compression_rows, cut_back_rows, long_list_rows, name_rows, mac_rows, compression_rows, kex_offset_rows}
use Rattle.tried.specs.BodyRows.{session_rows, tcpip_rows, type_rows, confirmation_rows, body_rows}
use Rattle.tried.proofs.TriedLaws.{computed, nothing, both}

cut_front_fine : wrong cut_front_rows ≡ []
unfolding computed cut_front_rows
cut_front_fine = nothing

cut_cipher_fine : wrong cut_cipher_rows ≡ []
unfolding computed cut_cipher_rows
cut_cipher_fine = nothing

cut_compression_fine : wrong cut_compression_rows ≡ []
unfolding computed cut_compression_rows
cut_compression_fine = nothing

cut_back_fine : wrong cut_back_rows ≡ []
unfolding computed cut_back_rows
cut_back_fine = nothing

long_list_fine : wrong long_list_rows ≡ []
unfolding computed long_list_rows
long_list_fine = nothing

name_fine : wrong name_rows ≡ []
unfolding computed name_rows
name_fine = nothing

mac_fine : wrong mac_rows ≡ []
unfolding computed mac_rows
mac_fine = nothing

compression_fine : wrong compression_rows ≡ []
unfolding computed compression_rows
compression_fine = nothing

session_fine : wrong session_rows ≡ []
unfolding computed session_rows
session_fine = nothing

tcpip_fine : wrong tcpip_rows ≡ []
unfolding computed tcpip tcpip_rows
tcpip_fine = nothing

type_fine : wrong type_rows ≡ []
unfolding computed x11 tcpip direct_stream_local forwarded_stream_local openssh_type type_rows
type_fine = nothing

confirmation_fine : wrong confirmation_rows ≡ []
unfolding computed read_confirmation confirmation_rows
confirmation_fine = nothing

kex_offsets_fine : wrong kex_offset_rows ≡ []
kex_offsets_fine = both cut_front_rows _ cut_front_fine (both cut_cipher_rows _ cut_cipher_fine (both cut_compression_rows _ cut_compression_fine (both cut_back_rows _ cut_back_fine (both long_list_rows _ long_list_fine (both name_rows _ name_fine (both mac_rows _ mac_fine compression_fine))))))

bodies_fine : wrong body_rows ≡ []
bodies_fine = both session_rows _ session_fine (both tcpip_rows _ tcpip_fine (both type_rows _ type_fine confirmation_fine))

-- The one claim: each row's answer is document 02's.
pub none_wrong_offsets : wrong (kex_offset_rows ++ body_rows) ≡ []
none_wrong_offsets = both kex_offset_rows _ kex_offsets_fine bodies_fine

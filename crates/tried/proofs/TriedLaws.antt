-- P1 to P12 of document 01, by computation: `none_wrong`, below. Assumes nothing.
use mathlib.Core.Path.{◌≡◌, refl}
use mathlib.Core.List.{List, [], ◌∷◌, ◌++◌, flatten}
use Rattle.answer.specs.Answer.{◌>>=◌}
use Rattle.answer.proofs.Laws.{split}
use Rattle.put.specs.Written.{word as encoded}
use Rattle.text.specs.Same.{same, ascii}
use Rattle.text.specs.Utf8.{utf8, octets, next, rows as utf8_rows}
use Rattle.wire.specs.Fields.{byte, word, run, string, end}
use Rattle.commas.specs.Cut.{cut, join}
use Rattle.namelist.specs.Judged.{standing, judged, judged_list, name_list}
use Rattle.names.specs.Tables.{names_of, all_names, kex_names, key_names, certificate_names, cipher_names, mac_names, compression_names, need_mac}
use Rattle.names.specs.Lookup.{place_from, number_of}
use Rattle.choice.specs.Choice.{first, listed, first_shared, chosen, both_first, kept}
use Rattle.choice.specs.Rows.{row_spelled}
use Rattle.judging.specs.Tables.{all, below, each_key_row, good_list, good_lists, good_row_table, good_tables, agrees, consistent, may_lend, valid}
use Rattle.filters.specs.Picked.{member, without, of_kind, held, added, certificates}
use Rattle.preferred.specs.Own.{written_kex, chosen_kex, keys_of}
use Rattle.framing.specs.Clear.{padding_length, judged_length, judged_padding, counted, frame, packet_of, announced, padding_of, packet_at, whole_packet, read_packet}
use Rattle.replies.specs.Confirmation.{offer as granted}
use Rattle.layouts.specs.Types.{exact, channel_type}
use Rattle.channels.specs.Open.{read_open}
use Rattle.negotiation.specs.KexInit.{text_field, encoded as encoded_fields, offer}
use Rattle.negotiation.specs.Written.{kex_init}
use Rattle.negotiation.specs.Read.{number, needs_mac, settle, settle_mac, strict, is_certificate, key_number, settled, read_kex}
use Rattle.tried.specs.Row.{Row, wrong}
use Rattle.tried.specs.Rows.{packet_rows, short_rows, ctr_rows, chacha20_rows, reversed_rows, unshared_rows, ignored_rows, kept_rows, rows}

-- opens every definition on the way from the tried bytes to the answers
unfoldable pub computed : Unit {0}
unfolding same ◌>>=◌ encoded ascii utf8 octets next utf8_rows byte word run string end cut join standing judged judged_list name_list names_of all_names kex_names key_names certificate_names cipher_names mac_names compression_names need_mac place_from number_of first listed first_shared chosen both_first row_spelled all below each_key_row good_list good_lists good_row_table good_tables agrees consistent may_lend valid member kept without written_kex chosen_kex of_kind held added certificates keys_of padding_length judged_length judged_padding counted frame packet_of announced padding_of packet_at whole_packet read_packet granted exact channel_type read_open text_field encoded_fields flatten kex_init offer number needs_mac settle settle_mac strict is_certificate key_number settled read_kex
computed = tt

-- By its type, so that the check computes a part's wrong rows once and can show them.
pub nothing : ◌≡◌ {A = List Row} [] []
nothing = refl

packet_fine : wrong packet_rows ≡ []
unfolding computed packet_rows
packet_fine = nothing

short_fine : wrong short_rows ≡ []
unfolding computed short_rows
short_fine = nothing

ctr_fine : wrong ctr_rows ≡ []
unfolding computed ctr_rows
ctr_fine = nothing

chacha20_fine : wrong chacha20_rows ≡ []
unfolding computed chacha20_rows
chacha20_fine = nothing

reversed_fine : wrong reversed_rows ≡ []
unfolding computed reversed_rows
reversed_fine = nothing

unshared_fine : wrong unshared_rows ≡ []
unfolding computed unshared_rows
unshared_fine = nothing

ignored_fine : wrong ignored_rows ≡ []
unfolding computed ignored_rows
ignored_fine = nothing

kept_fine : wrong kept_rows ≡ []
unfolding computed kept_rows
kept_fine = nothing

-- none wrong here and none there
pub both : (a b : List Row) → wrong a ≡ [] → wrong b ≡ [] → wrong (a ++ b) ≡ []
both [] b p q = q
both (r ∷ a) b p q = split (same r.answer r.expected) (λ t. rw t (both a b (rw t at p) q)) (λ t. let z : wrong (r ∷ a) ≡ r ∷ wrong a = rw t in cc)

-- The one claim: each row's answer is document 01's. A row with another answer would stand in the list.
pub none_wrong : wrong rows ≡ []
none_wrong = both packet_rows _ packet_fine (both short_rows _ short_fine (both ctr_rows _ ctr_fine (both chacha20_rows _ chacha20_fine (both reversed_rows _ reversed_fine (both unshared_rows _ unshared_fine (both ignored_rows _ ignored_fine kept_fine))))))

-- The rows on what document 01 adds, by computation: `none_wrong_added`, below. Assumes nothing.
use mathlib.Core.Path.{◌≡◌}
use mathlib.Core.List.{[], flatten}
use Rattle.answer.specs.Answer.{◌>>=◌}
use Rattle.put.specs.Written.{word as encoded, written, buffer}
use Rattle.text.specs.Same.{same}
use Rattle.commas.specs.Cut.{join}
use Rattle.wire.specs.Shown.{shown}
use Rattle.names.specs.Tables.{names_of, kex_names, key_names, certificate_names, cipher_names, mac_names, compression_names, need_mac, built_in}
use Rattle.names.specs.Spelled.{entry}
use Rattle.names.specs.Lookup.{place_from, number_of}
use Rattle.judging.specs.Tables.{all, below, each_key_row, good_list, good_lists, good_row_table, good_tables, agrees, consistent, may_lend, valid}
use Rattle.choice.specs.Choice.{kept}
use Rattle.filters.specs.Picked.{without}
use Rattle.preferred.specs.Own.{written_kex, keys_of}
use Rattle.framing.specs.Clear.{padding_length, judged_length, frame, packet_of}
use Rattle.replies.specs.Failure.{payload, failure}
use Rattle.negotiation.specs.KexInit.{text_field, encoded as encoded_fields}
use Rattle.negotiation.specs.Written.{kex_init, write_kex}
use Rattle.negotiation.specs.Read.{read_kex}
use Rattle.tried.specs.Row.{wrong}
use Rattle.tried.specs.TableRows.{entry_rows, number_rows, column_rows, identity_rows, client_rows, cookie_rows, reader_rows, table_rows}
use Rattle.tried.specs.LongRows.{long_rows}
use Rattle.tried.specs.RoomRows.{failure_rows, unknown_type_rows, packet_room_rows, spelling_rows, kex_init_room_rows, room_rows}
use Rattle.tried.specs.PlaceRows.{place_rows}
use Rattle.tried.specs.NameRows.{kex_rows, key_name_rows, certificate_rows, cipher_rows, mac_rows, cipher_column_rows, name_rows}
use Rattle.tried.specs.AddedRows.{added_rows}
use Rattle.tried.proofs.TriedLaws.{nothing, both}

-- opens every definition on the way
computed : Unit {0}
unfolding same ◌>>=◌ encoded written buffer join shown names_of kex_names key_names certificate_names cipher_names mac_names compression_names need_mac built_in entry place_from number_of all below each_key_row good_list good_lists good_row_table good_tables agrees consistent may_lend valid kept without written_kex keys_of padding_length judged_length frame packet_of payload failure encoded_fields flatten text_field kex_init write_kex read_kex
computed = tt

entry_fine : wrong entry_rows ≡ []
unfolding computed entry_rows
entry_fine = nothing

number_fine : wrong number_rows ≡ []
unfolding computed number_rows
number_fine = nothing

column_fine : wrong column_rows ≡ []
unfolding computed column_rows
column_fine = nothing

identity_fine : wrong identity_rows ≡ []
unfolding computed identity_rows
identity_fine = nothing

client_fine : wrong client_rows ≡ []
unfolding computed client_rows
client_fine = nothing

cookie_fine : wrong cookie_rows ≡ []
unfolding computed cookie_rows
cookie_fine = nothing

reader_fine : wrong reader_rows ≡ []
unfolding computed reader_rows
reader_fine = nothing

long_fine : wrong long_rows ≡ []
unfolding computed long_rows
long_fine = nothing

failure_fine : wrong failure_rows ≡ []
unfolding computed failure_rows
failure_fine = nothing

unknown_type_fine : wrong unknown_type_rows ≡ []
unfolding computed unknown_type_rows
unknown_type_fine = nothing

packet_room_fine : wrong packet_room_rows ≡ []
unfolding computed packet_room_rows
packet_room_fine = nothing

spelling_fine : wrong spelling_rows ≡ []
unfolding computed spelling_rows
spelling_fine = nothing

kex_init_room_fine : wrong kex_init_room_rows ≡ []
unfolding computed kex_init_room_rows
kex_init_room_fine = nothing

place_fine : wrong place_rows ≡ []
unfolding computed place_rows
place_fine = nothing

kex_fine : wrong kex_rows ≡ []
unfolding computed kex_rows
kex_fine = nothing

key_fine : wrong key_name_rows ≡ []
unfolding computed key_name_rows
key_fine = nothing

certificate_fine : wrong certificate_rows ≡ []
unfolding computed certificate_rows
certificate_fine = nothing

cipher_fine : wrong cipher_rows ≡ []
unfolding computed cipher_rows
cipher_fine = nothing

mac_fine : wrong mac_rows ≡ []
unfolding computed mac_rows
mac_fine = nothing

cipher_column_fine : wrong cipher_column_rows ≡ []
unfolding computed cipher_column_rows
cipher_column_fine = nothing

tables_fine : wrong table_rows ≡ []
tables_fine = both entry_rows _ entry_fine (both number_rows _ number_fine (both column_rows _ column_fine (both identity_rows _ identity_fine (both client_rows _ client_fine (both cookie_rows _ cookie_fine reader_fine)))))

rooms_fine : wrong room_rows ≡ []
rooms_fine = both failure_rows _ failure_fine (both unknown_type_rows _ unknown_type_fine (both packet_room_rows _ packet_room_fine (both spelling_rows _ spelling_fine kex_init_room_fine)))

names_fine : wrong name_rows ≡ []
names_fine = both kex_rows _ kex_fine (both key_name_rows _ key_fine (both certificate_rows _ certificate_fine (both cipher_rows _ cipher_fine (both mac_rows _ mac_fine cipher_column_fine))))

-- The one claim, beside that of P1 to P12: each row's answer is document 01's.
pub none_wrong_added : wrong added_rows ≡ []
none_wrong_added = both table_rows _ tables_fine (both long_rows _ long_fine (both room_rows _ rooms_fine (both place_rows _ place_fine names_fine)))

-- Pairs of ends, by computation: demand 3's hypotheses are met, two pairs accept different names, and each of 10 to 14 is
-- a pair's answer. So neither one constant choice nor refusing everything meets the demand. Assumes nothing.
use mathlib.Core.Path.{◌≡◌, refl}
use mathlib.Core.Bool.{Bool, true, false, not, ◌&&◌, ◌||◌}
use mathlib.Core.List.{List, [], ◌∷◌, map, flatten}
use Prim.Native.Nat.{ℕ}
use lib.ListN.{replicate}
use Rattle.answer.specs.Answer.{Out, done, refuse, placed, ◌>>=◌}
use Rattle.answer.proofs.Laws.{and_left, and_right}
use Rattle.put.specs.Written.{word as encoded}
use Rattle.text.specs.Same.{same, ascii}
use Rattle.text.specs.Utf8.{utf8, octets, next, rows as utf8_rows}
use Rattle.wire.specs.Fields.{byte, word, run, string, end}
use Rattle.commas.specs.Cut.{cut, join, every}
use Rattle.namelist.specs.Judged.{standing, judged, judged_list, name_list}
use Rattle.names.specs.Tables.{names_of, all_names, kex_names, key_names, certificate_names, cipher_names, mac_names, compression_names, need_mac}
use Rattle.names.specs.Lookup.{place_from, number_of}
use Rattle.choice.specs.declared.Side.{Side}
use Rattle.choice.specs.declared.Side.TheVariants.{Client, Server}
use Rattle.choice.specs.Choice.{first, listed, first_shared, chosen, both_first, kept}
use Rattle.choice.specs.Rows.{row_spelled}
use Rattle.judging.specs.Tables.{Tables, tables, all, below, each_key_row, good_list, good_lists, good_row_table, good_tables, agrees, consistent, may_lend, valid}
use Rattle.preferred.specs.Defaults.{defaults}
use Rattle.filters.specs.Picked.{member, without, of_kind, held, added, certificates}
use Rattle.preferred.specs.Own.{written_kex, chosen_kex, keys_of}
use Rattle.negotiation.specs.declared.Names.{Names}
use Rattle.negotiation.specs.KexInit.{text_field, encoded as encoded_fields, offer}
use Rattle.negotiation.specs.Written.{kex_init}
use Rattle.negotiation.specs.Read.{number, needs_mac, settle, settle_mac, strict, is_certificate, key_number, settled, read_kex}
use Rattle.agreement.specs.Protected.{protecting}
use Rattle.agreement.specs.Demand.{Ends}

abbrev pub cookie : List ℕ
cookie = replicate 16 7

-- a client with these kex, key, cipher, MAC and compression numbers, which takes Ed25519 certificates
abbrev pub client_of : List ℕ → List ℕ → List ℕ → List ℕ → List ℕ → Tables
client_of kex key cipher mac compression = tables Client kex key (0 ∷ []) cipher mac compression [] [] [] []

-- a server that holds an Ed25519 key with its certificate, and an RSA key
abbrev pub server_of : List ℕ → List ℕ → List ℕ → List ℕ → List ℕ → Tables
server_of kex key cipher mac compression =
    tables Server kex key [] cipher mac compression (0 ∷ 4 ∷ []) (1 ∷ 2 ∷ []) (0 ∷ []) (1 ∷ [])

abbrev pub names_are : ℕ → ℕ → ℕ → ℕ → Bool → Bool → Names
names_are kex key cipher mac certificate is_strict =
    record {
      kex = record { 0 = kex };
      key = record { 0 = key };
      cipher = record { 0 = cipher };
      client_mac = record { 0 = mac };
      server_mac = record { 0 = mac };
      client_compression = record { 0 = 0 };
      server_compression = record { 0 = 0 };
      flags = record { host_key_is_certificate = certificate; ignore_guessed = false; strict_kex = is_strict };
    }

-- a pair, what both ends read in what the other writes, and at which offsets the client and the server refuse
pub record Pair : Type 0 where
  pub client : Tables
  pub server : Tables
  pub answer : Out Names
  pub at : ℕ × ℕ

abbrev pub pairs : List Pair
pairs =
    -- the default tables, and a server with an Ed25519 key
    record {
      client = defaults Client [] [] [] [];
      server = defaults Server (0 ∷ []) (1 ∷ []) [] [];
      answer = done (names_are 0 0 10 1 false true);
      at = (0, 0);
    }
    -- the client's order decides, a certificate is chosen, and both are strict
    ∷ record {
      client = client_of (2 ∷ 1 ∷ 11 ∷ []) (4 ∷ 0 ∷ []) (2 ∷ 10 ∷ []) (4 ∷ 3 ∷ []) (0 ∷ []);
      server = server_of (1 ∷ 2 ∷ 12 ∷ []) (0 ∷ 4 ∷ []) (10 ∷ 2 ∷ []) (3 ∷ 4 ∷ 0 ∷ []) (0 ∷ []);
      answer = done (names_are 2 0 2 4 true true);
      at = (0, 0);
    }
    -- no MAC is shared, and chacha20 needs none; only the server would be strict
    ∷ record {
      client = client_of (1 ∷ []) (5 ∷ []) (10 ∷ []) (4 ∷ []) (0 ∷ []);
      server = server_of (1 ∷ 12 ∷ []) (4 ∷ 5 ∷ []) (10 ∷ []) (3 ∷ []) (0 ∷ []);
      answer = done (names_are 1 5 10 0 false false);
      at = (0, 0);
    }
    -- both prefer both ext-info names, and share no kex
    ∷ record {
      client = client_of (1 ∷ 9 ∷ 10 ∷ []) (0 ∷ []) (2 ∷ []) (4 ∷ []) (0 ∷ []);
      server = server_of (2 ∷ 9 ∷ 10 ∷ []) (0 ∷ []) (2 ∷ []) (4 ∷ []) (0 ∷ []);
      answer = refuse 10;
      at = (17, 17);
    }
    ∷ record {
      client = client_of (1 ∷ []) (0 ∷ []) (2 ∷ []) (4 ∷ []) (0 ∷ []);
      server = server_of (1 ∷ 12 ∷ []) (4 ∷ []) (2 ∷ []) (4 ∷ []) (0 ∷ []);
      answer = refuse 11;
      at = (67, 38);
    }
    ∷ record {
      client = client_of (1 ∷ []) (0 ∷ []) (2 ∷ []) (4 ∷ []) (0 ∷ []);
      server = server_of (1 ∷ 12 ∷ []) (0 ∷ []) (10 ∷ []) (4 ∷ []) (0 ∷ []);
      answer = refuse 12;
      at = (115, 86);
    }
    -- aes128-ctr needs a MAC
    ∷ record {
      client = client_of (1 ∷ []) (0 ∷ []) (2 ∷ []) (4 ∷ []) (0 ∷ []);
      server = server_of (1 ∷ 12 ∷ []) (0 ∷ []) (2 ∷ []) (3 ∷ []) (0 ∷ []);
      answer = refuse 13;
      at = (143, 114);
    }
    ∷ record {
      client = client_of (1 ∷ []) (0 ∷ []) (2 ∷ []) (4 ∷ []) (0 ∷ []);
      server = server_of (1 ∷ 12 ∷ []) (0 ∷ []) (2 ∷ []) (4 ∷ []) [];
      answer = refuse 14;
      at = (177, 148);
    }
    ∷ []

-- what demand 3 asks of two ends, as a test
abbrev is_client : Side → Bool
is_client Client = true
is_client Server = false

abbrev pub meets : Pair → Bool
meets p =
    is_client p.client.side
    && not (is_client p.server.side)
    && valid p.client
    && valid p.server
    && (protecting p.client || protecting p.server)

pub meets_ends : (p : Pair) → meets p ≡ true → Ends p.client p.server cookie cookie
meets_ends p h =
    record {
      is_client = client p.client.side (search (and_left, and_right));
      is_server = server p.server.side (search (and_left, and_right));
      client_valid = search (and_left, and_right);
      server_valid = search (and_left, and_right);
      client_cookie16 = refl;
      server_cookie16 = refl;
      one_protects = search (and_left, and_right);
    }
  where
    client : (s : Side) → is_client s ≡ true → s ≡ Client
    client Client e = refl
    client Server e = cc

    server : (s : Side) → not (is_client s) ≡ true → s ≡ Server
    server Client e = cc
    server Server e = refl

-- opens every definition on the way from tables to bytes to names
opened : Unit {0}
unfolding read_kex settled first chosen all below each_key_row good_lists good_tables without of_kind held keys_of kex_init encoded_fields flatten text_field offer encoded word run string byte end cut join standing judged judged_list name_list utf8 octets next utf8_rows same ascii valid good_list good_row_table agrees consistent may_lend names_of kex_names key_names certificate_names cipher_names mac_names compression_names listed first_shared both_first row_spelled all_names member kept written_kex chosen_kex added certificates number number_of place_from needs_mac settle settle_mac need_mac strict is_certificate key_number ◌>>=◌
opened = tt

-- the pairs are such as demand 3 speaks of
pub pairs_meet : every meets pairs ≡ true
unfolding opened protecting
pairs_meet = refl

-- and these are their answers, through every byte that is written and read: one number, each where the peer's list stands
pub clients_read : map (λ (p : Pair). read_kex p.client false (kex_init p.server cookie)) pairs ≡ map (λ (p : Pair). placed p.at.0 p.answer) pairs
unfolding opened
clients_read = refl

pub servers_read : map (λ (p : Pair). read_kex p.server false (kex_init p.client cookie)) pairs ≡ map (λ (p : Pair). placed p.at.1 p.answer) pairs
unfolding opened
servers_read = refl

-- Where neither end protects, MAC `none` can be the first shared name: aes128-ctr then refuses it, though a name is
-- shared (P11), and cipher `none` is accepted beside it. So both parts of demand 3 want their hypothesis.
abbrev pub unprotected : List Pair
unprotected =
    record {
      client = client_of (1 ∷ []) (0 ∷ []) (2 ∷ []) (0 ∷ 4 ∷ []) (0 ∷ []);
      server = server_of (1 ∷ []) (0 ∷ []) (2 ∷ []) (4 ∷ 0 ∷ []) (0 ∷ []);
      answer = refuse 13;
      at = (114, 114);
    }
    ∷ record {
      client = client_of (1 ∷ []) (0 ∷ []) (1 ∷ []) (0 ∷ 4 ∷ []) (0 ∷ []);
      server = server_of (1 ∷ []) (0 ∷ []) (1 ∷ []) (4 ∷ 0 ∷ []) (0 ∷ []);
      answer = done (names_are 1 0 1 0 true false);
      at = (0, 0);
    }
    ∷ []

pub unprotected_read : map (λ (p : Pair). read_kex p.client false (kex_init p.server cookie)) unprotected ≡ map (λ (p : Pair). placed p.at.0 p.answer) unprotected
unfolding opened
unprotected_read = refl

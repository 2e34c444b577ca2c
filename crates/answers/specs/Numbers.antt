-- The table of answers, document 01's and what the change requests added, which docs/RULES.md has: the one place of the definitions where
-- their numbers stand. Each name is the row's meaning.
use Rattle.std.specs.Prelude.{ℕ}

abbrev pub nothing_for_this_step : ℕ
nothing_for_this_step = 0

abbrev pub bytes_kept : ℕ
bytes_kept = 1

abbrev pub delivered : ℕ
delivered = 2

abbrev pub packet_size : ℕ
packet_size = 3

abbrev pub no_sync_byte : ℕ
no_sync_byte = 4

abbrev pub buffer_size : ℕ
buffer_size = 5

abbrev pub no_payload : ℕ
no_payload = 6

abbrev pub payload_empty : ℕ
payload_empty = 7

abbrev pub payload_beyond : ℕ
payload_beyond = 8

abbrev pub pointer_beyond_rest : ℕ
pointer_beyond_rest = 9

abbrev pub under3_bytes : ℕ
under3_bytes = 10

abbrev pub syntax_indicator : ℕ
syntax_indicator = 11

abbrev pub under8_bytes : ℕ
under8_bytes = 12

abbrev pub length_above1021 : ℕ
length_above1021 = 13

abbrev pub already_delivered : ℕ
already_delivered = 14

abbrev pub no_section_open : ℕ
no_section_open = 15

abbrev pub section_under12 : ℕ
section_under12 = 16

abbrev pub crc_not_zero : ℕ
crc_not_zero = 17

abbrev pub no_adaptation_field : ℕ
no_adaptation_field = 18

abbrev pub adaptation_field_length : ℕ
adaptation_field_length = 19

abbrev pub flag_clear : ℕ
flag_clear = 20

abbrev pub field_ends_before : ℕ
field_ends_before = 21

abbrev pub pmt_too_short : ℕ
pmt_too_short = 22

abbrev pub walk_at_end : ℕ
walk_at_end = 23

abbrev pub pat_tail : ℕ
pat_tail = 24

abbrev pub state_not_sound : ℕ
state_not_sound = 25

abbrev pub position_above_length : ℕ
position_above_length = 26

abbrev pub stream_under5 : ℕ
stream_under5 = 27

abbrev pub info_past_end : ℕ
info_past_end = 28

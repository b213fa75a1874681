-- What it means that settings are sound.
use Rattle.serf_agent.proofs.Names.{Bool, arith, length, nat_le, true, ◌&&◌, ◌<◌, ◌≡◌, ◌≤◌, and_parts, leb-true, is_between, is_sound, Config}

-- the bounds of the name and of the buffers
abbrev buffers_of : Config → Bool
buffers_of c = is_between 1 128 (length c.name) && is_between 1 65536 c.event_buffer && is_between 1 65536 c.query_buffer

-- the bounds of the name, of the buffers and of the packets
abbrev packets_of : Config → Bool
packets_of c = buffers_of c && nat_le c.event_limit 9216 && nat_le c.query_limit 9216 && nat_le c.response_limit 9216

packets : (c : Config) → is_sound c ≡ true → packets_of c ≡ true
packets c h = (and_parts (packets_of c) (is_between 1 65536 c.responders) (and_parts (packets_of c && is_between 1 65536 c.responders) (is_between 1 65536 c.per_time) h).0).0

limits : (c : Config) → is_sound c ≡ true → (buffers_of c && nat_le c.event_limit 9216 && nat_le c.query_limit 9216) ≡ true
limits c h = (and_parts (buffers_of c && nat_le c.event_limit 9216 && nat_le c.query_limit 9216) (nat_le c.response_limit 9216) (packets c h)).0

events : (c : Config) → is_sound c ≡ true → (buffers_of c && nat_le c.event_limit 9216) ≡ true
events c h = (and_parts (buffers_of c && nat_le c.event_limit 9216) (nat_le c.query_limit 9216) (limits c h)).0

pub limit-sound : (c : Config) → is_sound c ≡ true → c.event_limit ≤ 9216
limit-sound c h = leb-true c.event_limit 9216 (and_parts (buffers_of c) (nat_le c.event_limit 9216) (events c h)).1

-- sound settings have at least one slot in each buffer
pub buffers-sound : (c : Config) → is_sound c ≡ true → (0 < c.event_buffer) × (0 < c.query_buffer)
buffers-sound c h =
    let buffers = and_parts (buffers_of c) (nat_le c.event_limit 9216) (events c h) in
    let slots = and_parts (is_between 1 128 (length c.name) && is_between 1 65536 c.event_buffer) (is_between 1 65536 c.query_buffer) buffers.0 in
    let event = and_parts (is_between 1 128 (length c.name)) (is_between 1 65536 c.event_buffer) slots.0 in
    let some : 1 ≤ c.event_buffer = leb-true 1 c.event_buffer (and_parts (nat_le 1 c.event_buffer) (nat_le c.event_buffer 65536) event.1).0 in
    let more : 1 ≤ c.query_buffer = leb-true 1 c.query_buffer (and_parts (nat_le 1 c.query_buffer) (nat_le c.query_buffer 65536) slots.1).0 in
    (omega (arith, some), omega (arith, more))

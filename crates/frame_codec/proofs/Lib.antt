mod BigEndian
mod HeaderSpelling
mod BufferWrites
mod FirstFaults
mod DecodeSpells
mod EncodeSpells

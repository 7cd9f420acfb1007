pub mod AgendaOfCode

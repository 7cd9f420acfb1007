pub mod SharedSecrets

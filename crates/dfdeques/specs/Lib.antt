pub mod DequePacking

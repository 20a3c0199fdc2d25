-- Where actions stand; what is read of a table that is laid out so; the origins.
pub mod Places
pub mod Laid
pub mod Origins

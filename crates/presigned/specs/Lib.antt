pub mod PresignedTexts
